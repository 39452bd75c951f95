-- The representatives before the index are noted.
use Rattle.rule_influence.proofs.Scans.{AreNotedSoFar}
use Rattle.rule_influence.proofs.influence.decided.Given as goal

abbrev pub invariant-loop-index : goal.invariant-loop-index
invariant-loop-index l = record { noted : AreNotedSoFar l.pair.rules l.comparison-inside.visits.names l.index l.decided.items }
