use Rattle.std.proofs.Common.{◌≡◌}
use Rattle.session_tests.proofs.threads.make_all.Given as goal

-- the keeper stays the one of its row
abbrev pub invariant-loop-change : goal.invariant-loop-change
invariant-loop-change l = l.keeper.table ≡ l.initial.keeper.table
