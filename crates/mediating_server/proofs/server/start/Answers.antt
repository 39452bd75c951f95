use denote.Exit.{no}
use denote.Param.{param}
use denote.Param.Send.{shr_send}
use Rattle.mediating_server.proofs.ThreadSafety.{worker_send, scene_sync, of_three}
use Rattle.mediating_server.proofs.server.start.Goals as goal

pub spawn-thread-requires-send-F : goal.spawn-thread-requires-send-F
spawn-thread-requires-send-F g c κs within =
    let worker = worker_send (param 0 g.row.M) g.M.Row c.type_bounds.send-M in
    let scene = scene_sync (param 2 g.row.I) (param 3 g.row.O) c.type_bounds.send-I c.type_bounds.send-O in
    of_three 1 _ no _ _ _ _ (worker _ _) (shr_send _ _ _ c.type_bounds.sync-R) (shr_send _ _ _ (scene _ _))
