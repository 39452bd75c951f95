use Rattle.std.proofs.Common.{◌≡◌}
use Rattle.session_tests.proofs.threads.open_often.Given as goal

-- the session stays one of its row
abbrev pub invariant-loop : goal.invariant-loop
invariant-loop l = l.session.walk.table ≡ l.initial.session.walk.table
