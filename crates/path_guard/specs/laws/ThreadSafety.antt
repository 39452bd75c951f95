-- A guard may be shared by threads. A `search` in a crate above finds it by this.
use denote.RattleType.{RattleType}
use denote.Param.Send.{IsSend, IsSync, sendable}
use Rattle.std.proofs.Crossing as boxes
use Rattle.profile_registry.specs.laws.ThreadSafety.{publisher_send}
use Rattle.guarded_row.proofs.guarded.GuardedRow.TheSendSync as guarded
use Rattle.guarded_row.specs.declared.row.Row as row
use Rattle.path_guard.specs.contracts.guard.Guard as guard

module _ (M : RattleType) (g : row.Ghosts M.Denot) where
  pub guard_sync : IsSend M → IsSync (guard.the_row M g)
  guard_sync send = search (sendable, guarded.the_field_sync, publisher_send, boxes.crosses) depth 40 fits 20000
