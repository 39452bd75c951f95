use denote.Exit.{no}
use denote.Param.{param}
use denote.Param.Send.{shr_send}
use Rattle.path_guard.specs.laws.Closures.{of_four}
use Rattle.random_storms.proofs.ThreadSafety.{random_send, number_send, scene_sync}
use Rattle.random_storms.proofs.opens.threads.start_publishers.Goals as goal

pub spawn-thread-requires-send-F : goal.spawn-thread-requires-send-F
spawn-thread-requires-send-F g c κs within =
    let scene = scene_sync (param 0 g.row.M) g.M.Row c.type_bounds.send-M in
    of_four 1 _ no _ _ _ _ _ (shr_send _ _ _ c.type_bounds.sync-R) (shr_send _ _ _ (scene _ _)) random_send number_send
