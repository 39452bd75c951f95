-- The states so far, and what gathers the next ones.
use Rattle.glob_automaton.specs.inner.GatheredSets.{IsGathering}
use Rattle.glob_automaton.specs.inner.States.{lists_of, AreStates}
use Rattle.glob_automaton.proofs.subsets.add_states.Given as goal

abbrev pub invariant-loop-state : goal.invariant-loop-state
invariant-loop-state l = IsGathering l.chart l.gathering × AreStates l.chart (lists_of l.sets) l.states.ranges.items l.states.firsts.items
    l.states.records.items l.states.start l.state
