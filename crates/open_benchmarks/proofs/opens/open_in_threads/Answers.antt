use denote.Param.Send.{sendable}
use Rattle.path_session.specs.laws.ThreadSafety.{session_send}
use Rattle.open_benchmarks.proofs.opens.open_in_threads.Goals as goal

pub map_vec-requires-send-J : goal.map_vec-requires-send-J
map_vec-requires-send-J g c κs within = search (sendable, session_send) depth 40
