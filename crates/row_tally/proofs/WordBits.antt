-- Bits of words in a list, after one word has changed.
use Rattle.std.proofs.Common.{◌≡◌, ◌≢◌, ⊎_elim, ℕ, ◌*◌, ◌/◌, ◌%◌, ◌^◌, ◌<◌, List, length, bit_and, bit_or, w64, sym, ap}
use Rattle.std.proofs.Common.{◌∙◌, arith}
use Rattle.std.specs.Prelude.{slice_index}
use Rattle.std.specs.Int.{bit_at, bit_not}
use Rattle.std.proofs.Math.ListN.{set}
use Rattle.std.proofs.lemmas.Bool.{cases_eq}
use Rattle.std.proofs.lemmas.Grind.{get_or-set_at}
use Rattle.std.proofs.lemmas.List.{get_or-set_same, get_or-set_other}
use Rattle.std.proofs.lemmas.Nat.Bits.{bit_at-zero, bit_at_set_same, bit_at_set_other, bit_at_clear_same, bit_at_clear_other}
use Rattle.row_tally.specs.Bits.{bit_in}

-- one word is another now
module _ (words : List ℕ) (n : ℕ) (room : n / 64 < length words) where
  pub bit_there : (word : ℕ) → bit_in (set words (n / 64) word) n ≡ bit_at word (n % 64)
  bit_there word = ap (λ z. bit_at z (n % 64)) (get_or-set_same words (n / 64) word 0 room)

  pub other_bits : (word : ℕ) → ((i : ℕ) → i < 64 → i ≢ n % 64 → bit_at word i ≡ bit_at (slice_index words (n / 64)) i) →
      (m : ℕ) → m ≢ n → bit_in (set words (n / 64) word) m ≡ bit_in words m
  other_bits word same m differs = ⊎_elim
      (λ e.
      ap (λ z. bit_at z (m % 64)) (get_or-set_at words (n / 64) (m / 64) word 0 e room)
      ∙ same (m % 64) (omega arith) (λ k. differs (omega (arith, e, k)))
      ∙ ap (λ z. bit_at (slice_index words z) (m % 64)) (sym e))
      (λ apart. ap (λ z. bit_at z (m % 64)) (get_or-set_other words (n / 64) (m / 64) word 0 apart))
      (cases_eq (m / 64) (n / 64))

  pub set_here : bit_in (set words (n / 64) (bit_or (slice_index words (n / 64)) (1 * 2 ^ (n % 64) % 2 ^ 64))) n ≡ 1
  set_here = bit_there (bit_or (slice_index words (n / 64)) (1 * 2 ^ (n % 64) % 2 ^ 64))
      ∙ bit_at_set_same w64 (slice_index words (n / 64)) (n % 64) (omega arith)

  pub set_others : (m : ℕ) → m ≢ n →
      bit_in (set words (n / 64) (bit_or (slice_index words (n / 64)) (1 * 2 ^ (n % 64) % 2 ^ 64))) m ≡ bit_in words m
  set_others = other_bits (bit_or (slice_index words (n / 64)) (1 * 2 ^ (n % 64) % 2 ^ 64))
      (λ i _ apart. bit_at_set_other w64 (slice_index words (n / 64)) (n % 64) (omega arith) i apart)

  pub clear_here :
      bit_in (set words (n / 64) (bit_and (slice_index words (n / 64)) (bit_not w64 (1 * 2 ^ (n % 64) % 2 ^ 64)))) n ≡ 0
  clear_here = bit_there (bit_and (slice_index words (n / 64)) (bit_not w64 (1 * 2 ^ (n % 64) % 2 ^ 64)))
      ∙ bit_at_clear_same w64 (slice_index words (n / 64)) (n % 64) (omega arith)

  pub clear_others : (m : ℕ) → m ≢ n →
      bit_in (set words (n / 64) (bit_and (slice_index words (n / 64)) (bit_not w64 (1 * 2 ^ (n % 64) % 2 ^ 64)))) m ≡ bit_in words m
  clear_others = other_bits (bit_and (slice_index words (n / 64)) (bit_not w64 (1 * 2 ^ (n % 64) % 2 ^ 64)))
      (λ i small apart. bit_at_clear_other w64 (slice_index words (n / 64)) (n % 64) (omega arith) i small apart)

-- the bits of words that are 0
pub zero_bit : (words : List ℕ) (n : ℕ) → slice_index words (n / 64) ≡ 0 → bit_in words n ≡ 0
zero_bit words n zeros = ap (λ z. bit_at z (n % 64)) zeros ∙ bit_at-zero (n % 64)

-- a word with a bit isn't 0
pub positive_word : (words : List ℕ) (n : ℕ) → bit_in words n ≡ 1 → 0 < slice_index words (n / 64)
positive_word words n one = ⊎_elim
    (λ e. let zeros : bit_in words n ≡ 0 = zero_bit words n e in absurd (omega (arith, one, zeros)))
    (λ ne. omega (arith, ne))
    (cases_eq (slice_index words (n / 64)) 0)
