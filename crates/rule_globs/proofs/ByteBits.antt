-- Sets of bytes as bits, word by word.
use Rattle.std.proofs.Common.{◌≡◌, ℕ, zero, suc, ◌+◌, ◌-◌, ◌*◌, ◌/◌, ◌%◌, ◌^◌, ◌<◌, ◌==◌, Bool, not, ◌&&◌, ◌||◌, ⊎_elim, List, [], ◌∷◌}
use Rattle.std.proofs.Common.{get_or, max, min, nat_lt, nat_le, w64, bit_or, bit_and, refl, sym, ap, ◌∙◌, arith}
use Rattle.std.specs.Int.{bit_at, bit_not}
use Rattle.std.proofs.lemmas.Bool.{cases_lt, lt-ltb, le-ltb, le-leb, lt-leb}
use Rattle.std.proofs.lemmas.Nat.{one_shl}
use Rattle.std.proofs.lemmas.Nat.Bits.{bit_at-lt, bit_at_or, bit_at_and, bit_at_not, bit_at_ones, bit_at_ones_above}
use Rattle.rule_globs.specs.Glob.{in_range}
use Rattle.rule_globs.specs.inner.ByteBits.{has_bit}
use Rattle.rule_globs.specs.declared.items.ByteRange.{ByteRange}

-- a number whose n lowest bits are set
pub low_ones : (n i : ℕ) → has_bit (2 ^ n - 1) i ≡ nat_lt i n
low_ones n i = ⊎_elim
    (λ lt. ap (λ z. z == 1) (bit_at_ones n i lt) ∙ sym (lt-ltb i n lt))
    (λ le. ap (λ z. z == 1) (bit_at_ones_above n i le) ∙ sym (le-ltb i n le))
    (cases_lt i n)

pub low_ones_shl : (n i : ℕ) → n < 64 → has_bit (1 * 2 ^ n % 2 ^ 64 - 1) i ≡ nat_lt i n
low_ones_shl n i lt = ap (λ z. has_bit (z - 1) i) (one_shl n 64 lt) ∙ low_ones n i

table : (x y z : ℕ) → x < 2 → y < 2 → z < 2 → (max x (min (1 - y) z) == 1) ≡ ((x == 1) || (not (y == 1) && (z == 1)))
table zero zero zero a b c = refl
table zero zero (suc zero) a b c = refl
table zero (suc zero) zero a b c = refl
table zero (suc zero) (suc zero) a b c = refl
table (suc zero) zero zero a b c = refl
table (suc zero) zero (suc zero) a b c = refl
table (suc zero) (suc zero) zero a b c = refl
table (suc zero) (suc zero) (suc zero) a b c = refl
table (suc (suc x)) y z a b c = absurd (omega (arith, a))
table x (suc (suc y)) z a b c = absurd (omega (arith, b))
table x y (suc (suc z)) a b c = absurd (omega (arith, c))

-- the bits of a word with those of a mask added
masked : (w l h i : ℕ) → l < 2 ^ 64 → i < 64 →
    has_bit (bit_or w (bit_and (bit_not w64 l) h)) i ≡ (has_bit w i || (not (has_bit l i) && has_bit h i))
masked w l h i fits lt =
    ap (λ z. z == 1) (bit_at_or w (bit_and (bit_not w64 l) h) i)
    ∙ ap (λ z. max (bit_at w i) z == 1) (bit_at_and (bit_not w64 l) h i)
    ∙ ap (λ z. max (bit_at w i) (min z (bit_at h i)) == 1) (bit_at_not w64 l i fits lt)
    ∙ table (bit_at w i) (bit_at l i) (bit_at h i) (bit_at-lt w i) (bit_at-lt l i) (bit_at-lt h i)

from_first : (first before i : ℕ) → not (nat_lt i (first - before)) ≡ nat_le first (before + i)
from_first first before i = ⊎_elim
    (λ lt. ap not (lt-ltb i (first - before) lt) ∙ sym (lt-leb first (before + i) (omega (arith, lt))))
    (λ le. ap not (le-ltb i (first - before) le) ∙ sym (le-leb first (before + i) (omega (arith, le))))
    (cases_lt i (first - before))

upto_last : (last before i : ℕ) → nat_lt i (last + 1 - before) ≡ nat_le (before + i) last
upto_last last before i = ⊎_elim
    (λ lt. lt-ltb i (last + 1 - before) lt ∙ sym (le-leb (before + i) last (omega (arith, lt))))
    (λ le. le-ltb i (last + 1 - before) le ∙ sym (lt-leb (before + i) last (omega (arith, le))))
    (cases_lt i (last + 1 - before))

-- from the first byte on, and no further than the last
between : (range : ByteRange) (before i : ℕ) →
    (not (nat_lt i (range.first - before)) && nat_lt i (range.last + 1 - before)) ≡ in_range range (before + i)
between range before i =
    ap (λ z. z && nat_lt i (range.last + 1 - before)) (from_first range.first before i)
    ∙ ap (λ z. nat_le range.first (before + i) && z) (upto_last range.last before i)

pub word_and_range : (w l h i before : ℕ) (range : ByteRange) → l < 2 ^ 64 → i < 64 →
    has_bit l i ≡ nat_lt i (range.first - before) → has_bit h i ≡ nat_lt i (range.last + 1 - before) →
    has_bit (bit_or w (bit_and (bit_not w64 l) h)) i ≡ (has_bit w i || in_range range (before + i))
word_and_range w l h i before range fits lt low high =
    masked w l h i fits lt
    ∙ ap (λ z. has_bit w i || (not z && has_bit h i)) low
    ∙ ap (λ z. has_bit w i || (not (nat_lt i (range.first - before)) && z)) high
    ∙ ap (λ z. has_bit w i || z) (between range before i)

four : (a b c d : ℕ) (F : ℕ → ℕ → Bool) →
    ((i : ℕ) → i < 64 → has_bit a i ≡ F 0 i) → ((i : ℕ) → i < 64 → has_bit b i ≡ F 1 i) →
    ((i : ℕ) → i < 64 → has_bit c i ≡ F 2 i) → ((i : ℕ) → i < 64 → has_bit d i ≡ F 3 i) →
    (q i : ℕ) → q < 4 → i < 64 → has_bit (get_or (a ∷ b ∷ c ∷ d ∷ []) q 0) i ≡ F q i
four a b c d F ha hb hc hd zero i lq li = ha i li
four a b c d F ha hb hc hd (suc zero) i lq li = hb i li
four a b c d F ha hb hc hd (suc (suc zero)) i lq li = hc i li
four a b c d F ha hb hc hd (suc (suc (suc zero))) i lq li = hd i li
four a b c d F ha hb hc hd (suc (suc (suc (suc q)))) i lq li = absurd (omega (arith, lq))

pub in_four_words : (a b c d : ℕ) (words : List ℕ) (range : ByteRange) →
    ((i : ℕ) → i < 64 → has_bit a i ≡ (has_bit (get_or words 0 0) i || in_range range (64 * 0 + i))) →
    ((i : ℕ) → i < 64 → has_bit b i ≡ (has_bit (get_or words 1 0) i || in_range range (64 * 1 + i))) →
    ((i : ℕ) → i < 64 → has_bit c i ≡ (has_bit (get_or words 2 0) i || in_range range (64 * 2 + i))) →
    ((i : ℕ) → i < 64 → has_bit d i ≡ (has_bit (get_or words 3 0) i || in_range range (64 * 3 + i))) →
    (n : ℕ) → n < 256 →
    has_bit (get_or (a ∷ b ∷ c ∷ d ∷ []) (n / 64) 0) (n % 64) ≡ (has_bit (get_or words (n / 64) 0) (n % 64) || in_range range n)
in_four_words a b c d words range ha hb hc hd n lt =
    four a b c d (λ q i. has_bit (get_or words q 0) i || in_range range (64 * q + i)) ha hb hc hd (n / 64) (n % 64)
    (omega (arith, lt)) (omega arith)
    ∙ ap (λ z. has_bit (get_or words (n / 64) 0) (n % 64) || in_range range z) (omega arith)
