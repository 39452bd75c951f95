use Rattle.std.proofs.Common.{◌≡◌}
use Rattle.session_tests.proofs.links.expect_unmade.Given as goal

-- the keeper stays the one of its row, and the session one of the same
abbrev pub invariant-loop-unmade : goal.invariant-loop-unmade
invariant-loop-unmade g l = record {
  same : l.keeper.table ≡ l.initial.keeper.table;
  of : l.session.walk.table ≡ l.initial.session.walk.table;
}
