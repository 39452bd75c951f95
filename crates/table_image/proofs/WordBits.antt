-- Bits of words that are moved and joined.
use Rattle.std.proofs.Common.{◌≡◌, ℕ, zero, suc, ◌+◌, ◌-◌, ◌*◌, ◌/◌, ◌%◌, ◌^◌, ◌<◌, ◌≤◌, ◌==◌, true, false, w64, ◌||◌, max}
use Rattle.std.proofs.Common.{bit_or, refl, sym, ap, ◌∙◌, arith}
use Rattle.std.specs.Int.{bit_at, trailing_ones}
use Rattle.std.proofs.Math.Nat.{div-add-mod, mod-lt, mul_comm}
use Rattle.std.proofs.lemmas.Nat.{pow_pos}
use Rattle.std.proofs.lemmas.Nat.Bits.{bit_at-lt, bit_at_or, bit_at_cat_low, bit_at_cat_high, bit_at-zero, bit_at_ones}
use Rattle.std.proofs.lemmas.Nat.Bits.{bit_at-trailing_ones}
use Rattle.table_image.specs.inner.TakenCells.{is_bit}

either : (x y : ℕ) → x < 2 → y < 2 → (max x y == 1) ≡ ((x == 1) || (y == 1))
either zero zero a b = refl
either zero (suc zero) a b = refl
either (suc zero) zero a b = refl
either (suc zero) (suc zero) a b = refl
either (suc (suc x)) y a b = absurd (omega (arith, a))
either x (suc (suc y)) a b = absurd (omega (arith, b))

pub bits_or : (a b i : ℕ) → is_bit (bit_or a b) i ≡ (is_bit a i || is_bit b i)
bits_or a b i = ap (λ z. z == 1) (bit_at_or a b i) ∙ either (bit_at a i) (bit_at b i) (bit_at-lt a i) (bit_at-lt b i)

-- n in two parts
parts : (n k : ℕ) → (n / 2 ^ k) * 2 ^ k + n % 2 ^ k ≡ n
parts n k = let e = div-add-mod n (2 ^ k) in turned (n / 2 ^ k) (2 ^ k) (n % 2 ^ k) ∙ e
  where
    turned : (a b c : ℕ) → a * b + c ≡ b * a + c
    turned a b c = ap (λ z. z + c) (mul_comm a b)

-- the low bits of a number
low_bits : (n w i : ℕ) → i < w → bit_at (n % 2 ^ w) i ≡ bit_at n i
low_bits n w i lt = sym (bit_at_cat_low (n / 2 ^ w) w (n % 2 ^ w) i lt) ∙ ap (λ z. bit_at z i) (parts n w)

-- a number moved down
pub bits_down : (n k i : ℕ) → bit_at (n / 2 ^ k) i ≡ bit_at n (k + i)
bits_down n k i =
    ap (bit_at (n / 2 ^ k)) (omega arith) ∙ sym (bit_at_cat_high (n / 2 ^ k) k (n % 2 ^ k) (k + i) (mod-lt n (pow_pos k)) (omega arith))
    ∙ ap (λ z. bit_at z (k + i)) (parts n k)

-- a number moved up in a word
pub bits_up_low : (n k i : ℕ) → i < k → i < 64 → bit_at (n * 2 ^ k % 2 ^ 64) i ≡ 0
bits_up_low n k i lt within =
    low_bits (n * 2 ^ k) 64 i within ∙ ap (λ z. bit_at z i) (omega arith) ∙ bit_at_cat_low n k 0 i lt ∙ bit_at-zero i

pub bits_up_high : (n k i : ℕ) → k ≤ i → i < 64 → bit_at (n * 2 ^ k % 2 ^ 64) i ≡ bit_at n (i - k)
bits_up_high n k i le within =
    low_bits (n * 2 ^ k) 64 i within ∙ ap (λ z. bit_at z i) (omega arith) ∙ bit_at_cat_high n k 0 i (pow_pos k) le

pub bits_zero : (i : ℕ) → is_bit 0 i ≡ false
bits_zero i = ap (λ z. z == 1) (bit_at-zero i)

pub bits_all : (n i : ℕ) → n ≡ 2 ^ 64 - 1 → i < 64 → is_bit n i ≡ true
bits_all n i e lt = ap (λ z. is_bit z i) e ∙ ap (λ z. z == 1) (bit_at_ones 64 i lt)

-- the place of the lowest bit that isn't set
pub first_unset : (n : ℕ) → n < 2 ^ 64 → ¬ (n ≡ 2 ^ 64 - 1) →
    (trailing_ones w64 n < 64) × (is_bit n (trailing_ones w64 n) ≡ false) × ((i : ℕ) → i < trailing_ones w64 n → is_bit n i ≡ true)
first_unset n fits other =
    let w = bit_at-trailing_ones w64 n (omega (arith, fits, other)) in
    (w.0, ap (λ z. z == 1) w.1, λ i lt. ap (λ z. z == 1) (w.2 i lt))
