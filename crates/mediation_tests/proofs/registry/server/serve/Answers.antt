use denote.Param.Send.{sendable}
use Rattle.profile_registry.proofs.ThreadSafety.{reader_send}
use Rattle.mediation_tests.proofs.registry.server.serve.Goals as goal

pub join-replies-requires-send-F : goal.join-replies-requires-send-F
join-replies-requires-send-F g c κs within = search (sendable, reader_send) depth 40
