use denote.Exit.{no}
use denote.Param.{param}
use denote.Param.Send.{shr_send}
use Rattle.std.proofs.Crossing as boxes
use Rattle.path_guard.specs.laws.Closures.{of_four}
use Rattle.path_guard.specs.laws.ThreadSafety.{guard_sync}
use Rattle.path_storm.proofs.Closures.{of_five}
use Rattle.path_storm.proofs.ThreadSafety.{profiles_sync, renames_send, replacements_send}
use Rattle.path_storm.proofs.threads.blow_in.Goals as goal

pub spawn_with-renamer-requires-send-F : goal.spawn_with-renamer-requires-send-F
spawn_with-renamer-requires-send-F g c κs within =
    let guard = guard_sync (param 0 g.row.M) g.M.Row c.type_bounds.send-M in
    of_four 2 _ no _ _ _ _ _ (shr_send _ _ _ c.type_bounds.sync-R) boxes.send (shr_send _ _ _ guard) renames_send

pub spawn_with-publisher-requires-send-F : goal.spawn_with-publisher-requires-send-F
spawn_with-publisher-requires-send-F g c κs within =
    let guard = guard_sync (param 0 g.row.M) g.M.Row c.type_bounds.send-M in
    of_five 2 _ no _ _ _ _ _ _ (shr_send _ _ _ c.type_bounds.sync-R) boxes.send (shr_send _ _ _ guard)
    (shr_send _ _ _ profiles_sync) replacements_send
