use denote.Exit.{no}
use denote.Param.{param}
use denote.Param.Send.{shr_send}
use Rattle.path_guard.specs.laws.Closures.{of_three}
use Rattle.guarded_row.specs.laws.ThreadSafety.{guarded_row_sync}
use Rattle.guard_tests.proofs.locked.Signals.TheSendSync as signals
use Rattle.guard_tests.proofs.locked.open_under_lock.Goals as goal

pub join-answered-requires-send-F : goal.join-answered-requires-send-F
join-answered-requires-send-F g c κs within =
    let row = guarded_row_sync (param 0 g.row.M) g.M.Row c.type_bounds.send-M in
    of_three 1 _ no _ _ _ _ (shr_send _ _ _ c.type_bounds.sync-R) (shr_send _ _ _ row) (shr_send _ _ _ signals.the_sync)
