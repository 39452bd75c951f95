use denote.Param.Send.{sendable}
use Rattle.profile_registry.proofs.ThreadSafety.{reader_send}
use Rattle.mediation_tests.proofs.registry.threads.run.Goals as goal

pub join-one-requires-send-F : goal.join-one-requires-send-F
join-one-requires-send-F g c κs within = search (sendable, reader_send) depth 40
