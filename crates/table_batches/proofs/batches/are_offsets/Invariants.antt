-- The offsets so far ascend, and stay in the text.
use Rattle.std.proofs.Common.{ℕ, ◌+◌, ◌<◌, ◌≤◌, get_or, length}
use Rattle.table_batches.proofs.batches.are_offsets.Given as goal

abbrev pub invariant-loop-i : goal.invariant-loop-i
invariant-loop-i l = record {
  ascend : (k : ℕ) → k < l.i → get_or l.offsets k 0 ≤ get_or l.offsets (k + 1) 0;
  within : (k : ℕ) → k ≤ l.i → get_or l.offsets k 0 ≤ length l.text;
}
