use denote.Param.Send.{sendable}
use Rattle.profile_registry.proofs.ThreadSafety.{reader_send}
use Rattle.mediation_tests.proofs.registry.threads.read_beside.Goals as goal

pub join-requires-send-F : goal.join-requires-send-F
join-requires-send-F g c κs within = search (sendable, reader_send) depth 40
