use denote.Param.Send.{sendable}
use Rattle.profile_registry.proofs.ThreadSafety.{reader_send}
use Rattle.benchmarks.proofs.registry.storm.storm.Goals as goal

pub spawn-requires-send-F : goal.spawn-requires-send-F
spawn-requires-send-F g c κs within = search (sendable, reader_send) depth 40
