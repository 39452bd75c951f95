-- The bits of cells in words.
use Rattle.std.proofs.Common.{◌≡◌, ◌≢◌, ℕ, zero, suc, ◌+◌, ◌-◌, ◌*◌, ◌/◌, ◌%◌, ◌^◌, ◌<◌, ◌≤◌, ◌==◌, Bool, true, false, ◌||◌}
use Rattle.std.proofs.Common.{⊎_elim, List, [], ◌∷◌, ◌++◌, length, take, slice_index_or, get_or, bit_or, w64, refl, sym, ap, ◌∙◌}
use Rattle.std.proofs.Common.{arith}
use Rattle.std.proofs.Math.ListN.{set, replicate}
use Rattle.std.proofs.lemmas.Bool.{cases_lt}
use Rattle.std.proofs.Math.Bool.{or-false, or-true}
use Rattle.std.proofs.lemmas.Bool.Decides.{eqb_tells}
use Rattle.std.proofs.lemmas.Grind.{get_or-set_at}
use Rattle.std.proofs.lemmas.List.{get_or-set_other, get_or_past, take_more}
use Rattle.std.proofs.lemmas.List.Folds.{list_any-append, list_any_none}
use Rattle.table_image.specs.declared.taken.Taken.{Taken}
use Rattle.std.proofs.lemmas.Nat.Bits.{bit_at_above, bit_at_set_same, bit_at_set_other}
use Rattle.table_image.specs.inner.TakenCells.{is_bit, is_taken, is_blocked}
use Rattle.table_image.proofs.WordBits.{bits_zero, bits_or, bits_down, bits_up_low, bits_up_high}

-- bit c of some words
abbrev pub bit_in : List ℕ → ℕ → Bool
bit_in words c = is_bit (get_or words (c / 64) 0) (c % 64)

pub at_word : (words : List ℕ) (index i : ℕ) → i < 64 → bit_in words (64 * index + i) ≡ is_bit (get_or words index 0) i
at_word words index i lt =
    ap (λ z. is_bit (get_or words z 0) ((64 * index + i) % 64)) (omega (arith, lt))
    ∙ ap (λ z. is_bit (get_or words index 0) z) (omega (arith, lt))

-- the window of two words
pub window_of_two : (words : List ℕ) (low high index over i : ℕ) → low < 2 ^ 64 → 0 < over → over < 64 → i < 64 →
    ((k : ℕ) → k < 64 → is_bit low k ≡ bit_in words (64 * index + k)) →
    ((k : ℕ) → k < 64 → is_bit high k ≡ bit_in words (64 * (index + 1) + k)) →
    is_bit (bit_or (low / 2 ^ over) (high * 2 ^ (64 - over) % 2 ^ 64)) i ≡ bit_in words (64 * index + over + i)
window_of_two words low high index over i fits some within lt of_low of_high =
    bits_or (low / 2 ^ over) (high * 2 ^ (64 - over) % 2 ^ 64) i
    ∙ ap (λ z. (z == 1) || is_bit (high * 2 ^ (64 - over) % 2 ^ 64) i) (bits_down low over i)
    ∙ ⊎_elim
    (λ below.
    ap (λ z. is_bit low (over + i) || (z == 1)) (bits_up_low high (64 - over) i below lt)
    ∙ or-false (is_bit low (over + i))
    ∙ of_low (over + i) (omega (arith, below, within)) ∙ ap (bit_in words) (omega arith))
    (λ le.
    ap (λ z. (z == 1) || is_bit (high * 2 ^ (64 - over) % 2 ^ 64) i) (bit_at_above low 64 (over + i) fits (omega (arith, le)))
    ∙ ap (λ z. z == 1) (bits_up_high high (64 - over) i le lt)
    ∙ of_high (i - (64 - over)) (omega (arith, lt, some)) ∙ ap (bit_in words) (omega (arith, le, within)))
    (cases_lt i (64 - over))

-- one more bit
module _ (words : List ℕ) (cell : ℕ) (room : cell < 64 * length words) where
  word : ℕ
  word = cell / 64

  pub one_taken : (c : ℕ) → bit_in (set words (cell / 64) (bit_or (get_or words (cell / 64) 0) (1 * 2 ^ (cell % 64) % 2 ^ 64))) c
      ≡ (bit_in words c || (c == cell))
  one_taken c = ⊎_elim
      (λ same. ⊎_elim
      (λ here.
      ap (λ z. is_bit z (c % 64)) (at_set same.1)
      ∙ ap (λ z. is_bit (bit_or (get_or words (cell / 64) 0) (1 * 2 ^ (cell % 64) % 2 ^ 64)) z) here.1
      ∙ ap (λ z. z == 1) (bit_at_set_same w64 (get_or words (cell / 64) 0) (cell % 64) (omega arith))
      ∙ sym (ap (λ z. bit_in words c || z) (yes (omega (arith, same.1, here.1))) ∙ or-true (bit_in words c)))
      (λ apart.
      ap (λ z. is_bit z (c % 64)) (at_set same.1)
      ∙ ap (λ z. z == 1) (bit_at_set_other w64 (get_or words (cell / 64) 0) (cell % 64) (omega arith) (c % 64) apart.1)
      ∙ ap (λ z. is_bit (get_or words z 0) (c % 64)) (sym same.1)
      ∙ sym (ap (λ z. bit_in words c || z) (no (λ e. apart.1 (ap (λ z. z % 64) e))) ∙ or-false (bit_in words c)))
      (eqb_tells (c % 64) (cell % 64)))
      (λ apart.
      ap (λ z. is_bit z (c % 64)) (get_or-set_other words (cell / 64) (c / 64) _ 0 apart.1)
      ∙ sym (ap (λ z. bit_in words c || z) (no (λ e. apart.1 (ap (λ z. z / 64) e))) ∙ or-false (bit_in words c)))
      (eqb_tells (c / 64) (cell / 64))
    where
      at_set : c / 64 ≡ cell / 64 → get_or (set words (cell / 64) (bit_or (get_or words (cell / 64) 0) (1 * 2 ^ (cell % 64) % 2 ^ 64)))
          (c / 64) 0
          ≡ bit_or (get_or words (cell / 64) 0) (1 * 2 ^ (cell % 64) % 2 ^ 64)
      at_set e = get_or-set_at words (cell / 64) (c / 64) _ 0 e (omega (arith, room))

      yes : c ≡ cell → (c == cell) ≡ true
      yes e = ⊎_elim (λ h. h.0) (λ h. absurd (h.1 e)) (eqb_tells c cell)

      no : c ≢ cell → (c == cell) ≡ false
      no differs = ⊎_elim (λ h. absurd (differs h.1)) (λ h. h.0) (eqb_tells c cell)

-- more words of which no bit is set
none_in : (n i : ℕ) → get_or (replicate {A = ℕ} n 0) i 0 ≡ 0
none_in n i = zeros n i
  where
    zeros : (n i : ℕ) → get_or (replicate {A = ℕ} n 0) i 0 ≡ 0
    zeros zero i = refl
    zeros (suc n) zero = refl
    zeros (suc n) (suc i) = zeros n i

pub more_words : (words : List ℕ) (n i : ℕ) → get_or (words ++ replicate {A = ℕ} n 0) i 0 ≡ get_or words i 0
more_words [] n i = none_in n i
more_words (w ∷ words) n zero = refl
more_words (w ∷ words) n (suc i) = more_words words n i

-- one more byte may block a base
pub blocked_more : (taken : Taken) (bytes : List ℕ) (i base : ℕ) → i < length bytes →
    is_blocked taken (take (i + 1) bytes) base ≡ (is_blocked taken (take i bytes) base || is_taken taken (base + get_or bytes i 0))
blocked_more taken bytes i base lt =
    ap (λ z. is_blocked taken z base) (take_more bytes i 0 lt)
    ∙ list_any-append (λ b. is_taken taken (base + b)) (take i bytes) (get_or bytes i 0 ∷ [])
    ∙ ap (λ z. is_blocked taken (take i bytes) base || z) (or-false (is_taken taken (base + get_or bytes i 0)))

-- past the last word no cell is taken
pub past_words : (taken : Taken) (c : ℕ) → 64 * length taken.words.items ≤ c → is_taken taken c ≡ false
past_words taken c le = ap (λ z. is_bit z (c % 64)) (get_or_past taken.words.items (c / 64) 0 (omega (arith, le))) ∙ bits_zero (c % 64)

-- so no base there is blocked
pub free_past_words : (taken : Taken) (bytes : List ℕ) (base : ℕ) → 64 * length taken.words.items ≤ base →
    is_blocked taken bytes base ≡ false
free_past_words taken bytes base le = list_any_none (λ b. is_taken taken (base + b)) bytes
    (λ k d lt. past_words taken (base + slice_index_or bytes k d) (omega (arith, le)))

-- nor is any of the next n bases free
pub none_before : (taken : Taken) (bytes : List ℕ) (from base word n : ℕ) →
    ((x : ℕ) → from ≤ x → x < base → is_blocked taken bytes x ≡ true) →
    ((i : ℕ) → i < 64 → is_bit word i ≡ is_blocked taken bytes (base + i)) → n ≤ 64 → ((i : ℕ) → i < n → is_bit word i ≡ true) →
    (x : ℕ) → from ≤ x → x < base + n → is_blocked taken bytes x ≡ true
none_before taken bytes from base word n none is few all x le lt = ⊎_elim
    (λ below. none x le below)
    (λ ge.
    ap (is_blocked taken bytes) (omega (arith, ge)) ∙ sym (is (x - base) (omega (arith, lt, ge, few))) ∙ all (x - base)
    (omega (arith, lt, ge)))
    (cases_lt x base)

-- where nothing from a cell on is taken, no base there is blocked
pub free_behind : (taken : Taken) (bytes : List ℕ) (limit : ℕ) → ((c : ℕ) → limit ≤ c → is_taken taken c ≡ false) →
    is_blocked taken bytes limit ≡ false
free_behind taken bytes limit free = list_any_none (λ b. is_taken taken (limit + b)) bytes
    (λ k d lt. free (limit + slice_index_or bytes k d) (omega arith))

-- below the start, and from it on
pub below : (taken : Taken) (bytes : List ℕ) (start base : ℕ) → ((x : ℕ) → x < start → is_blocked taken bytes x ≡ true) →
    ((x : ℕ) → start ≤ x → x < base → is_blocked taken bytes x ≡ true) → (x : ℕ) → x < base → is_blocked taken bytes x ≡ true
below taken bytes start base low high x lt = ⊎_elim (λ small. low x small) (λ le. high x le lt) (cases_lt x start)

-- a base that is blocked stays so where cells are taken
pub stays_blocked : (taken more : Taken) (bytes : List ℕ) (base : ℕ) → ((c : ℕ) → is_taken taken c ≡ true → is_taken more c ≡ true) →
    is_blocked taken bytes base ≡ true → is_blocked more bytes base ≡ true
stays_blocked taken more [] base grows h = h
stays_blocked taken more (b ∷ bytes) base grows h =
    elim (is_taken taken (base + b)) as (λ z. is_taken taken (base + b) ≡ z → (z || is_blocked taken bytes base) ≡ true →
    (is_taken more (base + b) || is_blocked more bytes base) ≡ true) [
      | true ↦ λ e k. ap (λ z. z || is_blocked more bytes base) (grows (base + b) e)
      | false ↦ λ e k. ap (λ z. is_taken more (base + b) || z) (stays_blocked taken more bytes base grows k)
          ∙ or-true (is_taken more (base + b))
    ] refl h
