-- What is live where the rules so far begin.
use Rattle.std.proofs.Common.{ℕ, ◌↔◌}
use Rattle.glob_automaton.specs.inner.GatheredSets.{IsGathering, Holds}
use Rattle.glob_automaton.proofs.GatheringSteps.{StartsBefore}
use Rattle.glob_automaton.proofs.subsets.gather_start.Given as goal

abbrev pub invariant-loop-rule : goal.invariant-loop-rule
invariant-loop-rule l = IsGathering l.chart l.gathering × ((q : ℕ) → Holds l.gathering q ↔ StartsBefore l.chart l.rule-index q)
