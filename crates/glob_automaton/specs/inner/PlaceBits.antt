-- Places as bits of words.
use Rattle.std.specs.Prelude.{◌≡◌, ℕ, ◌-◌, ◌^◌, ◌/◌, ◌%◌, ◌<◌, ◌≤◌, ◌==◌, ◌&&◌, Bool, true, false, List, length, nat_le, slice_index_or}
use Rattle.std.specs.Int.{bit_at}
use Rattle.glob_automaton.specs.declared.place_bits.PlaceBits.{PlaceBits}

-- the bit is set
abbrev pub is_bit : ℕ → ℕ → Bool
is_bit word i = bit_at word i == 1

-- the bit of the place is set
abbrev pub has_place : List ℕ → ℕ → Bool
has_place words q = is_bit (slice_index_or words (q / 64) 0) (q % 64)

-- the same of words that begin with the one of this number
abbrev pub has_from : ℕ → List ℕ → ℕ → Bool
has_from first words q = nat_le first (q / 64) && is_bit (slice_index_or words (q / 64 - first) 0) (q % 64)

-- only the words from `begin` up to `end` have bits
pub record AreWithin (bits : PlaceBits) : Type 0 where
  pub few : length bits.words.items ≤ 2 ^ 58
  pub end_there : bits.end ≤ length bits.words.items
  pub within : (q : ℕ) → has_place bits.words.items q ≡ true → (bits.begin ≤ q / 64) × (q / 64 < bits.end)

-- the first bit from one on that is set
pub record IsNextBit (word from bit : ℕ) : Type 0 where
  pub after : from ≤ bit
  pub small : bit < 64
  pub set : is_bit word bit ≡ true
  pub none_before : (i : ℕ) → from ≤ i → i < bit → is_bit word i ≡ false
