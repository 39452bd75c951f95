use Rattle.std.proofs.Common.{◌≡◌}
use Rattle.guard_tests.proofs.storm.logs.Later.is_later.Given as goal

-- the session stays one of the guard's row
abbrev pub invariant-loop-turn : goal.invariant-loop-turn
invariant-loop-turn g l = l.session.walk.table ≡ g.M.Row.table
