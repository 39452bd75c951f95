-- Words of bits as they are written and joined, and the places that are read off them.
use Rattle.std.proofs.Common.{◌≡◌, ◌≢◌, ◌⊎◌, inl, inr, ⊎_elim, ℕ, ◌+◌, ◌-◌, ◌*◌, ◌/◌, ◌%◌, ◌^◌, ◌<◌, ◌≤◌, ◌==◌, ◌||◌, ◌&&◌, Bool, true}
use Rattle.std.proofs.Common.{false, true≢false, nat_le, List, [], ◌∷◌, ◌++◌, length, slice_index_or, Contains, bit_or, w64, refl, sym, ap}
use Rattle.std.proofs.Common.{◌∙◌, subst, arith}
use Rattle.std.proofs.Math.ListN.{set}
use Rattle.std.specs.Int.Bits.{or_zero_r}
use Rattle.std.proofs.Math.Bool.{or-false, or-true}
use Rattle.std.proofs.lemmas.Bool.{cases_lt, leb-true}
use Rattle.std.proofs.lemmas.Bool.Decides.{eqb_tells, leb_tells}
use Rattle.std.proofs.lemmas.Grind.{get_or-set_at}
use Rattle.std.proofs.lemmas.List.{get_or-set_other, get_or_append_left, get_or_past, get_or_default, length-append}
use Rattle.std.proofs.lemmas.Nat.Bits.{bit_at_set_same, bit_at_set_other}
use Rattle.std.proofs.Math.Seq.{get_or-append_seam}
use Rattle.glob_automaton.specs.inner.GatheredSets.{IsAscending}
use Rattle.glob_automaton.specs.inner.PlaceBits.{has_from, has_place, is_bit}
use Rattle.glob_automaton.proofs.WordBits.{bits_or, bits_zero}

-- the words of one list are those of the other
pub same_places : (old new : List ℕ) → ((w : ℕ) → slice_index_or new w 0 ≡ slice_index_or old w 0) → (q : ℕ) →
    has_place new q ≡ has_place old q
same_places old new same q = ap (λ z. is_bit z (q % 64)) (same (q / 64))

-- one more bit
module _ (words : List ℕ) (place : ℕ) (room : place / 64 < length words) where
  joined_word : ℕ
  joined_word = bit_or (slice_index_or words (place / 64) 0) (1 * 2 ^ (place % 64) % 2 ^ 64)

  at_set : (q : ℕ) → q / 64 ≡ place / 64 → slice_index_or (set words (place / 64) joined_word) (q / 64) 0 ≡ joined_word
  at_set q e = get_or-set_at words (place / 64) (q / 64) joined_word 0 e room

  yes_equal : (q : ℕ) → q ≡ place → (q == place) ≡ true
  yes_equal q e = ⊎_elim (λ h. h.0) (λ h. absurd (h.1 e)) (eqb_tells q place)

  not_equal : (q : ℕ) → q ≢ place → (q == place) ≡ false
  not_equal q differs = ⊎_elim (λ h. absurd (differs h.1)) (λ h. h.0) (eqb_tells q place)

  pub one_added : (q : ℕ) →
      has_place (set words (place / 64) (bit_or (slice_index_or words (place / 64) 0) (1 * 2 ^ (place % 64) % 2 ^ 64))) q
      ≡ (has_place words q || (q == place))
  unfolding joined_word
  one_added q = ⊎_elim
      (λ same. ⊎_elim
      (λ here.
      ap (λ z. is_bit z (q % 64)) (at_set q same.1)
      ∙ ap (λ z. is_bit (bit_or (slice_index_or words (place / 64) 0) (1 * 2 ^ (place % 64) % 2 ^ 64)) z) here.1
      ∙ ap (λ z. z == 1) (bit_at_set_same w64 (slice_index_or words (place / 64) 0) (place % 64) (omega arith))
      ∙ sym (ap (λ z. has_place words q || z) (yes_equal q (omega (arith, same.1, here.1))) ∙ or-true (has_place words q)))
      (λ apart.
      ap (λ z. is_bit z (q % 64)) (at_set q same.1)
      ∙ ap (λ z. z == 1) (bit_at_set_other w64 (slice_index_or words (place / 64) 0) (place % 64) (omega arith) (q % 64) apart.1)
      ∙ ap (λ z. is_bit (slice_index_or words z 0) (q % 64)) (sym same.1)
      ∙ sym (ap (λ z. has_place words q || z) (not_equal q (λ e. apart.1 (ap (λ z. z % 64) e))) ∙ or-false (has_place words q)))
      (eqb_tells (q % 64) (place % 64)))
      (λ apart.
      ap (λ z. is_bit z (q % 64)) (get_or-set_other words (place / 64) (q / 64) _ 0 apart.1)
      ∙ sym (ap (λ z. has_place words q || z) (not_equal q (λ e. apart.1 (ap (λ z. z / 64) e))) ∙ or-false (has_place words q)))
      (eqb_tells (q / 64) (place / 64))

-- words joined with those from another one on
module _ (old new : List ℕ) (first : ℕ) (words : List ℕ) (index : ℕ) (all : length words ≤ index)
    (joined : (w : ℕ) → first ≤ w → w < first + index → slice_index_or new w 0 ≡ bit_or (slice_index_or old w 0)
    (slice_index_or words (w - first) 0))
    (same : (w : ℕ) → (w < first) ⊎ (first + index ≤ w) → slice_index_or new w 0 ≡ slice_index_or old w 0) where
  pub all_joined : (q : ℕ) → has_place new q ≡ (has_place old q || has_from first words q)
  all_joined q = ⊎_elim
      (λ below.
      ap (λ z. is_bit z (q % 64)) (same (q / 64) (inl below))
      ∙ sym (ap (λ z. has_place old q || (z && is_bit (slice_index_or words (q / 64 - first) 0) (q % 64))) (not_after below)
      ∙ or-false (has_place old q)))
      (λ ge. ap (λ z. is_bit z (q % 64)) (⊎_elim
      (λ lt. joined (q / 64) ge lt)
      (λ le. same (q / 64) (inr le) ∙ nothing_joined (slice_index_or old (q / 64) 0) (q / 64) le)
      (cases_lt (q / 64) (first + index)))
      ∙ bits_or (slice_index_or old (q / 64) 0) (slice_index_or words (q / 64 - first) 0) (q % 64)
      ∙ sym (ap (λ z. has_place old q || (z && is_bit (slice_index_or words (q / 64 - first) 0) (q % 64))) (is_after ge)))
      (cases_lt (q / 64) first)
    where
      not_after : q / 64 < first → nat_le first (q / 64) ≡ false
      not_after below = ⊎_elim (λ h. absurd (omega (arith, below, h.1))) (λ h. h.0) (leb_tells first (q / 64))

      is_after : first ≤ q / 64 → nat_le first (q / 64) ≡ true
      is_after ge = ⊎_elim (λ h. h.0) (λ h. absurd (omega (arith, ge, h.1))) (leb_tells first (q / 64))

      nothing_joined : (word w : ℕ) → first + index ≤ w → word ≡ bit_or word (slice_index_or words (w - first) 0)
      nothing_joined word w le =
          sym (ap (bit_or word) (get_or_past words (w - first) 0 (omega (arith, le, all))) ∙ or_zero_r word)

-- what one of two tests finds
pub either_has : (a b : Bool) → (a || b) ≡ true → (a ≡ true) ⊎ (b ≡ true)
either_has true b h = inl refl
either_has false b h = inr h

both_hold : (a b : Bool) → (a && b) ≡ true → (a ≡ true) × (b ≡ true)
both_hold true b h = (refl, h)
both_hold false b h = absurd (cc h)

-- the words that have a bit are there
pub from_within : (first : ℕ) (words : List ℕ) (q : ℕ) → has_from first words q ≡ true → (first ≤ q / 64) × (q / 64 < first + length words)
from_within first words q has =
    let tests = both_hold (nat_le first (q / 64)) (is_bit (slice_index_or words (q / 64 - first) 0) (q % 64)) has in
    let low : first ≤ q / 64 = leb-true first (q / 64) tests.0 in (
      low,
      ⊎_elim
          (λ lt. lt)
          (λ le. absurd (true≢false
          (sym tests.1 ∙ ap (λ z. is_bit z (q % 64)) (get_or_past words (q / 64 - first) 0 (omega (arith, low, le)))
          ∙ bits_zero (q % 64))))
          (cases_lt (q / 64) (first + length words)),
    )

-- a list with one more number, above the others, ascends
pub ascends_more : (xs : List ℕ) (x : ℕ) → IsAscending xs → ((q : ℕ) → Contains xs q → q < x) → IsAscending (xs ++ x ∷ [])
ascends_more xs x up below i j lt within =
    let long : length (xs ++ x ∷ []) ≡ length xs + 1 = length-append xs (x ∷ []) in
    let before : i < length xs = omega (arith, lt, within, long) in
    let at : slice_index_or (xs ++ x ∷ []) i 0 ≡ slice_index_or xs i 0 = get_or_append_left xs (x ∷ []) 0 i before in
    ⊎_elim
    (λ old. subst (λ z. z < slice_index_or (xs ++ x ∷ []) j 0) (sym at)
    (subst (λ z. slice_index_or xs i 0 < z) (sym (get_or_append_left xs (x ∷ []) 0 j old)) (up i j lt old)))
    (λ le.
    let last : j ≡ length xs = omega (arith, le, within, long) in
    let new : slice_index_or (xs ++ x ∷ []) j 0 ≡ x = ap (λ z. slice_index_or (xs ++ x ∷ []) z 0) last ∙ get_or-append_seam xs x [] 0 in
    omega (arith, at, new, below (slice_index_or xs i 0) (i, before, get_or_default xs i (slice_index_or xs i 0) 0 before)))
    (cases_lt j (length xs))
