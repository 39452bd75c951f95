-- The visits so far aren't of marked states.
use Rattle.profile_questions.proofs.LeastNames.{NoneMarked}
use Rattle.profile_questions.proofs.comparison.Comparison.shortest.Given as goal

abbrev pub invariant-loop-index : goal.invariant-loop-index
invariant-loop-index l = NoneMarked l.self-inside.visits l.marks.first.items l.marks.second.items l.marks.third.items l.index
