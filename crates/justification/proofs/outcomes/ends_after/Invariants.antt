use Rattle.justification.proofs.OpenEnds.{HasMade}
use Rattle.justification.proofs.outcomes.ends_after.Given as goal

-- the tree after the changes so far, and the ends in the trees up to it
abbrev pub invariant-loop-change : goal.invariant-loop-change
invariant-loop-change l = HasMade l.changes l.path l.ask l.tree l.ends.items l.change-index
