use Rattle.std.proofs.Common.{◌≡◌}
use Rattle.cache_tests.proofs.threads.walk_often.Given as goal

-- the walker stays one of its row
abbrev pub invariant-loop : goal.invariant-loop
invariant-loop l = l.walker.table ≡ l.initial.walker.table
