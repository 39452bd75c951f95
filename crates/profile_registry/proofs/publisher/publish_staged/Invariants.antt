use Rattle.std.proofs.Common.{map, drop}
use Rattle.mediation.specs.PolicyChanges.{deed_of}
use Rattle.profile_registry.proofs.publisher.publish_staged.Given as goal

abbrev pub ghosts-publish_batch : goal.ghosts-publish_batch
ghosts-publish_batch g a = record { staged = map deed_of (drop a.writer.behind a.writer.log.items) }
