-- The places of the words so far are read off.
use Rattle.std.proofs.Common.{◌≡◌, ◌↔◌, ℕ, ◌*◌, ◌/◌, ◌<◌, true, Contains}
use Rattle.glob_automaton.specs.inner.GatheredSets.{IsAscending}
use Rattle.glob_automaton.specs.inner.PlaceBits.{has_place}
use Rattle.glob_automaton.proofs.place_bits.PlaceBits.read_off.Given as goal

abbrev pub invariant-loop-index : goal.invariant-loop-index
invariant-loop-index l = record {
  sorted : IsAscending l.places.items;
  below : (q : ℕ) → Contains l.places.items q → q < 64 * l.index;
  places : (q : ℕ) → Contains l.places.items q ↔ ((q / 64 < l.index) × (has_place l.self.words.items q ≡ true));
}
