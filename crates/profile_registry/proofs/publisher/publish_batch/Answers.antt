use Rattle.std.proofs.Common.{drop}
use Rattle.profile_registry.proofs.KeptRule.{brings}
use Rattle.profile_registry.proofs.publisher.publish_batch.Goals as goal

pub publish_as-requires : goal.publish_as-requires
publish_as-requires g c next is =
    rw c.requires.batch (brings _ _ c.args.writer.desk.shown.value next (drop c.args.writer.behind c.args.writer.log.items)
    c.requires.whole is)
