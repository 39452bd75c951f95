-- The classes before this one have parted the bytes.
use Rattle.glob_automaton.proofs.AlikeBytes.{PartedBefore}
use Rattle.glob_automaton.proofs.bytes.ByteClasses.of.Given as goal

abbrev pub invariant-loop-taken : goal.invariant-loop-taken
invariant-loop-taken l = record {
  parted : PartedBefore l.chart.classes.items l.least l.taken-index;
}
