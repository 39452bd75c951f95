-- What is live after the places so far that take the byte.
use Rattle.std.proofs.Common.{ℕ, ◌↔◌}
use Rattle.glob_automaton.specs.inner.GatheredSets.{IsGathering, Holds}
use Rattle.glob_automaton.proofs.GatheringSteps.{StepsBefore}
use Rattle.glob_automaton.proofs.subsets.gather_step.Given as goal

abbrev pub invariant-loop-place : goal.invariant-loop-place
invariant-loop-place l = IsGathering l.chart l.gathering
    × ((q : ℕ) → Holds l.gathering q ↔ StepsBefore l.chart l.set l.byte l.place-index q)
