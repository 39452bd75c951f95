-- A guarded row may be shared by threads. A `search` in a crate above finds it by this.
use denote.RattleType.{RattleType}
use denote.Param.Send.{IsSend, IsSync, sendable}
use Rattle.std.proofs.Crossing as boxes
use Rattle.dentry_cache.proofs.keeper.Keeper.TheSendSync as keeper
use Rattle.guarded_row.specs.declared.row.Row as row
use Rattle.guarded_row.specs.contracts.row.RowKeeper as row_keeper
use Rattle.guarded_row.specs.contracts.guarded.GuardedRow as guarded

module _ (M : RattleType) (g : row.Ghosts M.Denot) where
  row_keeper_send : IsSend M → IsSend (row_keeper.the_row M g)
  row_keeper_send send = search (sendable, keeper.the_send, boxes.crosses) depth 40 fits 20000

  pub guarded_row_sync : IsSend M → IsSync (guarded.the_row M g)
  guarded_row_sync send = search (sendable, row_keeper_send, boxes.crosses) depth 40 fits 20000
