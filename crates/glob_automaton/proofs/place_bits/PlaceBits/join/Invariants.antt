-- The words so far are joined, and the others as they were.
use Rattle.std.proofs.Common.{◌≡◌, ◌⊎◌, ℕ, ◌+◌, ◌-◌, ◌<◌, ◌≤◌, bit_or, length, slice_index_or}
use Rattle.glob_automaton.proofs.place_bits.PlaceBits.join.Given as goal

abbrev pub invariant-loop-index : goal.invariant-loop-index
invariant-loop-index l = record {
  long : length l.self.words.items ≡ length l.initial.self.words.items;
  begun : l.self.begin ≡ l.initial.self.begin;
  ended : l.self.end ≡ l.initial.self.end;
  joined : (w : ℕ) → l.closure.first ≤ w → w < l.closure.first + l.index →
      slice_index_or l.self.words.items w 0 ≡ bit_or (slice_index_or l.initial.self.words.items w 0)
      (slice_index_or l.closure.words.items (w - l.closure.first) 0);
  same : (w : ℕ) → (w < l.closure.first) ⊎ (l.closure.first + l.index ≤ w) →
      slice_index_or l.self.words.items w 0 ≡ slice_index_or l.initial.self.words.items w 0;
}
