use Rattle.std.proofs.Common.{◌≡◌}
use Rattle.session_tests.proofs.order.expect_always.Given as goal

-- the session stays one of its row
abbrev pub invariant-loop-path : goal.invariant-loop-path
invariant-loop-path g l = l.session.walk.table ≡ l.initial.session.walk.table
