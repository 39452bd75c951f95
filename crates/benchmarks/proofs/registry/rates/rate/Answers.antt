use denote.Param.Send.{sendable}
use Rattle.profile_registry.proofs.ThreadSafety.{reader_send}
use Rattle.benchmarks.proofs.registry.rates.rate.Goals as goal

pub map_vec-requires-send-J : goal.map_vec-requires-send-J
map_vec-requires-send-J g c κs within = search (sendable, reader_send) depth 40
