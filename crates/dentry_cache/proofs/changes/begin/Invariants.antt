use Rattle.std.proofs.Common.{◌≡◌, drop, Some, take}
use Rattle.row_rule.specs.Row.{write}
use Rattle.dentry_cache.specs.Seats.{keeper_of, IsKeeping}
use Rattle.dentry_cache.proofs.changes.begin.Given as goal

abbrev pub ghosts-open : goal.ghosts-open
ghosts-open a = record { change = a.change.now; plan = a.plan.now }

-- the first cells of the plan are set, and the others are left
abbrev pub invariant-loop-i : goal.invariant-loop-i
invariant-loop-i l = record {
  own : l.seat.table_id ≡ l.initial.seat.table_id;
  role : IsKeeping l.seat.me;
  history : (keeper_of l.seat.me.0).history ≡ (keeper_of l.initial.seat.me.0).history;
  pending : (keeper_of l.seat.me.0).pending ≡ Some record { change = l.fn.change; left = drop l.i l.plan };
  cells : (keeper_of l.seat.me.0).cells ≡ write (keeper_of l.initial.seat.me.0).cells (take l.i l.plan);
}
