-- Bits of words that are joined and moved.
use Rattle.std.proofs.Common.{◌≡◌, ℕ, zero, suc, ◌+◌, ◌-◌, ◌*◌, ◌/◌, ◌%◌, ◌^◌, ◌<◌, ◌≤◌, ◌==◌, false, w64, ◌||◌, ⊎_elim, max, bit_or, refl}
use Rattle.std.proofs.Common.{sym, ap, ◌∙◌, arith}
use Rattle.std.specs.Int.{bit_at, trailing_zeros}
use Rattle.std.proofs.Math.Nat.{div-add-mod, div-le_self, mod-lt, mul_comm}
use Rattle.std.proofs.lemmas.Bool.{cases_lt}
use Rattle.std.proofs.lemmas.Nat.{pow_pos}
use Rattle.std.proofs.lemmas.Nat.Bits.{bit_at-lt, bit_at_or, bit_at_cat_high, bit_at-zero, bit_at_above, bit_at-trailing_zeros}
use Rattle.glob_automaton.specs.inner.PlaceBits.{is_bit, IsNextBit}

either : (x y : ℕ) → x < 2 → y < 2 → (max x y == 1) ≡ ((x == 1) || (y == 1))
either zero zero a b = refl
either zero (suc zero) a b = refl
either (suc zero) zero a b = refl
either (suc zero) (suc zero) a b = refl
either (suc (suc x)) y a b = absurd (omega (arith, a))
either x (suc (suc y)) a b = absurd (omega (arith, b))

pub bits_or : (a b i : ℕ) → is_bit (bit_or a b) i ≡ (is_bit a i || is_bit b i)
bits_or a b i = ap (λ z. z == 1) (bit_at_or a b i) ∙ either (bit_at a i) (bit_at b i) (bit_at-lt a i) (bit_at-lt b i)

pub bits_zero : (i : ℕ) → is_bit 0 i ≡ false
bits_zero i = ap (λ z. z == 1) (bit_at-zero i)

-- n in two parts
parts : (n k : ℕ) → (n / 2 ^ k) * 2 ^ k + n % 2 ^ k ≡ n
parts n k = let e = div-add-mod n (2 ^ k) in turned (n / 2 ^ k) (2 ^ k) (n % 2 ^ k) ∙ e
  where
    turned : (a b c : ℕ) → a * b + c ≡ b * a + c
    turned a b c = ap (λ z. z + c) (mul_comm a b)

-- a number moved down
bits_down : (n k i : ℕ) → bit_at (n / 2 ^ k) i ≡ bit_at n (k + i)
bits_down n k i =
    ap (bit_at (n / 2 ^ k)) (omega arith) ∙ sym (bit_at_cat_high (n / 2 ^ k) k (n % 2 ^ k) (k + i) (mod-lt n (pow_pos k)) (omega arith))
    ∙ ap (λ z. bit_at z (k + i)) (parts n k)

-- a bit from one on, in the word moved down
bit_from : (word from i : ℕ) → from ≤ i → bit_at word i ≡ bit_at (word / 2 ^ from) (i - from)
bit_from word from i le = ap (bit_at word) (omega (arith, le)) ∙ sym (bits_down word from (i - from))

-- where nothing is left of a word moved down, no bit from there on is set
pub none_from : (word from i : ℕ) → word / 2 ^ from ≡ 0 → from ≤ i → is_bit word i ≡ false
none_from word from i nothing le = ap (λ z. z == 1) (bit_from word from i le ∙ ap (λ z. bit_at z (i - from)) nothing
    ∙ bit_at-zero (i - from))

-- else the first one is the lowest bit of what is left
pub next_from : (word from : ℕ) → word < 2 ^ 64 → 0 < word / 2 ^ from → IsNextBit word from (from + trailing_zeros w64 (word / 2 ^ from))
next_from word from fits some = record {
  after = omega arith;
  small = ⊎_elim (λ lt. lt) (λ le. absurd (omega (arith, one, bit_at_above word 64 (from + low) fits le))) (cases_lt (from + low) 64);
  set = ap (λ z. z == 1) one;
  none_before = λ i le lt. ap (λ z. z == 1) (bit_from word from i le ∙ its.2 (i - from) (omega (arith, le, lt)));
}
  where
    low : ℕ
    low = trailing_zeros w64 (word / 2 ^ from)

    its : (low < 64) × (bit_at (word / 2 ^ from) low ≡ 1) × ((i : ℕ) → i < low → bit_at (word / 2 ^ from) i ≡ 0)
    its = bit_at-trailing_zeros w64 (word / 2 ^ from) some (omega (arith, fits, div-le_self word (2 ^ from)))

    one : bit_at word (from + low) ≡ 1
    one = sym (bits_down word from low) ∙ its.1
