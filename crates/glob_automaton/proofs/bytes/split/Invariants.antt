-- The bytes before this one are parted.
use Rattle.glob_automaton.proofs.Splits.{SplitBefore}
use Rattle.glob_automaton.proofs.bytes.split.Given as goal

abbrev pub invariant-loop-byte : goal.invariant-loop-byte
invariant-loop-byte l = record {
  split : SplitBefore l.fn.least l.taken l.other l.least l.byte;
}
