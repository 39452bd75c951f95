use denote.Param.Send.{sendable}
use Rattle.profile_registry.specs.laws.ThreadSafety.{publisher_send}
use Rattle.mediation_tests.proofs.registry.threads.told_there.Goals as goal

pub join-requires-send-F : goal.join-requires-send-F
join-requires-send-F g c κs within = search (sendable, publisher_send) depth 40
