-- Sets of numbers as bits of words: number n is bit n % 64 of word n / 64.
use Rattle.std.specs.Prelude.{◌≡◌, ◌↔◌, ℕ, ◌*◌, ◌/◌, ◌%◌, ◌^◌, ◌<◌, ◌≤◌, List, length, slice_index}
use Rattle.std.specs.Int.{bit_at}

-- the bit of a number, 0 or 1
abbrev pub bit_in : List ℕ → ℕ → ℕ
bit_in words n = bit_at (slice_index words (n / 64)) (n % 64)

-- the lowest bit of a word that is set
pub record IsLowBit (word bit : ℕ) : Type 0 where
  pub small : bit < 64
  pub here : bit_at word bit ≡ 1
  pub none_before : (i : ℕ) → i < bit → bit_at word i ≡ 0

-- the least number whose bit is set
pub record IsFirstBit (words : List ℕ) (n : ℕ) : Type 0 where
  pub here : bit_in words n ≡ 1
  pub none_before : (m : ℕ) → m < n → bit_in words m ≡ 0

-- the set bits of the summary are those of the words that aren't 0
pub record IsSummary (words summary : List ℕ) : Type 0 where
  pub few : length words ≤ 2 ^ 32
  pub few_above : length summary ≤ 2 ^ 32
  pub room : length words ≤ 64 * length summary
  pub bits : (w : ℕ) → (bit_in summary w ≡ 1) ↔ (0 < slice_index words w)
