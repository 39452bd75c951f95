-- The bytes before this one have their targets.
use Rattle.std.proofs.Common.{◌-◌, ◌<◌, ◌≤◌}
use Rattle.glob_automaton.specs.inner.GatheredSets.{IsGathering}
use Rattle.glob_automaton.specs.inner.Shared.{AreShared}
use Rattle.glob_automaton.specs.inner.States.{lists_of, AreFewSets, Keeps}
use Rattle.glob_automaton.proofs.RangeSteps.{IsWritten}
use Rattle.glob_automaton.proofs.subsets.add_row.Given as goal

abbrev pub invariant-loop-byte : goal.invariant-loop-byte
invariant-loop-byte l = record {
  some : 0 < l.from;
  small : l.from ≤ 256;
  gathering : IsGathering l.chart l.gathering;
  sets : AreFewSets l.chart (lists_of l.sets);
  kept : Keeps (lists_of l.fn.sets) (lists_of l.sets);
  others : AreShared l.chart l.classes.least l.named (lists_of l.sets) l.set l.others;
  written : IsWritten l.chart l.set (lists_of l.sets) l.fn.ranges.items l.ranges.items l.target l.from;
}

abbrev pub decreases-loop-byte : goal.decreases-loop-byte
decreases-loop-byte l = 256 - l.from
