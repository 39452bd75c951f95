use Rattle.std.proofs.Common.{◌≡◌}
use Rattle.row_benchmarks.proofs.cache.timer.time_meets.Given as goal

abbrev pub invariant-loop : goal.invariant-loop
invariant-loop g l = l.walker.table ≡ l.keeper.table
