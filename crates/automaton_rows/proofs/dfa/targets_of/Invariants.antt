-- The bytes before this one have their targets, and what is left of the row begins at this one.
use Rattle.std.proofs.Common.{◌≡◌, ◌≤◌, ◌<◌, ℕ, length, slice_index_or}
use Rattle.automaton_rows.specs.Rows.{IsRowFrom, target_in}
use Rattle.automaton_rows.proofs.dfa.targets_of.Given as goal

abbrev pub invariant-loop-byte : goal.invariant-loop-byte
invariant-loop-byte l = record {
  row : l.byte < 256 → IsRowFrom l.byte l.rest;
  long : length l.targets ≡ 256;
  done : (b : ℕ) → b < l.byte → slice_index_or l.targets b 0 ≡ target_in l.row b;
  left : (b : ℕ) → l.byte ≤ b → target_in l.rest b ≡ target_in l.row b;
}
