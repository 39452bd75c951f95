use Rattle.std.proofs.Common.{◌≡◌}
use Rattle.cache_tests.proofs.threads.change_often.Given as goal

-- the keeper stays that of its row
abbrev pub invariant-loop-version : goal.invariant-loop-version
invariant-loop-version l = l.keeper.table ≡ l.initial.keeper.table
