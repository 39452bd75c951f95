use denote.Exit.{no}
use denote.Param.Send.{shr_send, shr_slice_send}
use Rattle.std.proofs.Crossing.{Vec-send}
use Rattle.path_session.specs.laws.ThreadSafety.{session_send}
use Rattle.open_benchmarks.proofs.ThreadSafety.{byte_sync, number_sync, flag_sync, of_five}
use Rattle.open_benchmarks.proofs.threads.rates.open_beside.Goals as goal

pub join-requires-send-F : goal.join-requires-send-F
join-requires-send-F g c κs within =
    of_five 1 _ no _ _ _ _ _ _ (shr_send _ _ _ c.type_bounds.sync-R) (Vec-send _ session_send) (shr_slice_send _ _ _ byte_sync)
    (shr_send _ _ _ number_sync) (shr_send _ _ _ flag_sync)

pub join-requires-in-OwnName-send-F : goal.join-requires-in-OwnName-send-F
join-requires-in-OwnName-send-F g c κs within =
    of_five 1 _ no _ _ _ _ _ _ (shr_send _ _ _ c.type_bounds.sync-R) (Vec-send _ session_send) (shr_slice_send _ _ _ byte_sync)
    (shr_send _ _ _ number_sync) (shr_send _ _ _ flag_sync)

pub join-requires-in-Profile-send-F : goal.join-requires-in-Profile-send-F
join-requires-in-Profile-send-F g c κs within =
    of_five 1 _ no _ _ _ _ _ _ (shr_send _ _ _ c.type_bounds.sync-R) (Vec-send _ session_send) (shr_slice_send _ _ _ byte_sync)
    (shr_send _ _ _ number_sync) (shr_send _ _ _ flag_sync)
