-- The places of the bits so far are appended.
use Rattle.std.proofs.Common.{◌≡◌, ◌↔◌, ◌⊎◌, ℕ, ◌+◌, ◌-◌, ◌*◌, ◌/◌, ◌%◌, ◌<◌, ◌≤◌, true, Contains}
use Rattle.glob_automaton.specs.inner.GatheredSets.{IsAscending}
use Rattle.glob_automaton.specs.inner.PlaceBits.{is_bit}
use Rattle.glob_automaton.proofs.place_bits.push_word.Given as goal

abbrev pub invariant-loop-bit : goal.invariant-loop-bit
invariant-loop-bit l = record {
  small : l.from ≤ 64;
  sorted : IsAscending l.places.items;
  below : (q : ℕ) → Contains l.places.items q → q < 64 * l.index + l.from;
  places : (q : ℕ) → Contains l.places.items q
      ↔ (Contains l.fn.places.items q ⊎ ((q / 64 ≡ l.index) × (q % 64 < l.from) × (is_bit l.word (q % 64) ≡ true)));
}

abbrev pub decreases-loop-bit : goal.decreases-loop-bit
decreases-loop-bit l = 64 - l.from
