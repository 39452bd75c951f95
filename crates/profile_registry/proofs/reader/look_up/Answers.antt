use Rattle.profile_registry.proofs.KeptRule.{turns}
use Rattle.profile_registry.proofs.reader.look_up.Goals as goal

pub enter_as-requires : goal.enter_as-requires
enter_as-requires c = turns _ _
