use denote.Exit.{no}
use denote.Param.{param}
use denote.Param.Send.{sendable, shr_send}
use Rattle.std.proofs.Crossing as boxes
use Rattle.path_guard.specs.laws.ThreadSafety.{guard_sync}
use Rattle.path_storm.proofs.Closures.{of_six}
use Rattle.path_storm.proofs.ThreadSafety.{opens_send, session_log_send, worker_send}
use Rattle.path_storm.proofs.threads.start.Goals as goal

pub spawn_with-opening-requires-send-F : goal.spawn_with-opening-requires-send-F
spawn_with-opening-requires-send-F g c κs within =
    let worker = worker_send (param 0 g.row.M) g.M.Row c.type_bounds.send-M in
    let guard = guard_sync (param 0 g.row.M) g.M.Row c.type_bounds.send-M in
    of_six 2 _ no _ _ _ _ _ _ _ worker (shr_send _ _ _ c.type_bounds.sync-R) boxes.send (shr_send _ _ _ guard)
    (shr_send _ _ _ c.type_bounds.sync-G) opens_send

pub spawn_with-opening-requires-send-T : goal.spawn_with-opening-requires-send-T
spawn_with-opening-requires-send-T g c κs within = search (sendable, session_log_send, boxes.crosses) depth 40 fits 20000
