-- The visits' names represent all names, and the slash alone is one.
use Rattle.std.proofs.Common.{subst, arith}
use Rattle.profile_questions.specs.Names.{AreRepresentatives}
use Rattle.profile_questions.proofs.Representatives.{representatives, some_visit}
use Rattle.profile_questions.proofs.comparison.Comparison.len.Goals as goal

pub returns-clause-names : goal.returns-clause-names
returns-clause-names c = subst AreRepresentatives c.self.view_is
    (representatives c.end_is_live.ensures c.live_is_left_first.ensures c.self.inside.first.now c.self.inside.second.now
    c.self.inside.third.now c.self.inside.visits c.self.invariant)

pub returns-clause-some : goal.returns-clause-some
returns-clause-some c = omega (
  arith,
  c.len.ensures,
  some_visit c.self.inside.first.now c.self.inside.second.now c.self.inside.third.now c.self.inside.visits c.self.invariant,
)
