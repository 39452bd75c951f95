-- The records of the states so far.
use Rattle.std.proofs.Common.{◌≤◌, length}
use Rattle.glob_automaton.specs.inner.Leaves.{AreWithHits}
use Rattle.glob_automaton.proofs.leaf.with_hits.Given as goal

abbrev pub invariant-loop-state : goal.invariant-loop-state
invariant-loop-state l = record {
  records : AreWithHits l.hits l.dfa l.records.items l.state;
  within : l.state ≤ length l.dfa.rows;
}
