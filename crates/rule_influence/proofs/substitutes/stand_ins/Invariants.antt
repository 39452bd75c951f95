-- What stands in at the representatives before the index is in the lists.
use Rattle.rule_influence.proofs.StandInLists.{AreFoundSoFar}
use Rattle.rule_influence.proofs.substitutes.stand_ins.Given as goal

abbrev pub invariant-loop-index : goal.invariant-loop-index
invariant-loop-index l = record { found : AreFoundSoFar l.pair.rules l.comparison-inside.visits.names l.cases l.index l.lists.items }
