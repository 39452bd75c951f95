use denote.RattleType.{RattleType}
use base.Fml.{Lft}
use mir.Syntax.{Lifetime}
use denote.Exit.{no}
use denote.Param.{param}
use denote.Param.Send.{IsSend, IsSync, arg_sync, param_sync, sendable}
use Rattle.std.proofs.Crossing as boxes
use Rattle.guarded_row.specs.declared.row.Row as row
use Rattle.path_guard.specs.laws.ThreadSafety.{guard_sync}
use Rattle.guard_tests.specs.contracts.storm.logs.Later as later
use Rattle.guard_tests.proofs.storm.logs.later_storm.Goals as goal

-- a gate may be shared by the threads of a storm
later_sync : (M R : RattleType) (g : row.Ghosts M.Denot) → IsSend M → IsSync R → (name : Lifetime) (life : Lft) →
    IsSync (later.the_row (record { mir = name; lft = life }) M R g)
later_sync M R g send sync name life = search (sendable, guard_sync, boxes.crosses) depth 40 fits 20000

pub storm_log-outcome-requires-sync-G : goal.storm_log-outcome-requires-sync-G
storm_log-outcome-requires-sync-G g c κs within =
    let later = later_sync (param 0 g.row.M) (param 1 g.row.R) g.M.Row c.type_bounds.send-M c.type_bounds.sync-R in
    param_sync 2 _ (arg_sync _ no _ (later _ _))
