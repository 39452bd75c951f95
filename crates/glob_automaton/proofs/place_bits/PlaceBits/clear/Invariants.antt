-- The words so far are 0, and the others as they were.
use Rattle.std.proofs.Common.{◌≡◌, ◌⊎◌, ℕ, ◌<◌, ◌≤◌, length, slice_index_or}
use Rattle.glob_automaton.proofs.place_bits.PlaceBits.clear.Given as goal

abbrev pub invariant-loop-index : goal.invariant-loop-index
invariant-loop-index l = record {
  long : length l.self.words.items ≡ length l.fn.self.words.items;
  zeros : (w : ℕ) → l.fn.self.begin ≤ w → w < l.index → slice_index_or l.self.words.items w 0 ≡ 0;
  same : (w : ℕ) → (w < l.fn.self.begin) ⊎ (l.index ≤ w) → slice_index_or l.self.words.items w 0
      ≡ slice_index_or l.fn.self.words.items w 0;
}
