use Rattle.profile_registry.proofs.KeptRule.{starts}
use Rattle.profile_registry.proofs.publisher.Publisher.new.Goals as goal

pub new-requires-3-clause-rule : goal.new-requires-3-clause-rule
new-requires-3-clause-rule c = starts c.new.result c.new.ensures.contents
