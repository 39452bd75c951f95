-- Words of blocks, bit by bit.
use Rattle.std.proofs.Common.{◌≡◌, ℕ, zero, suc, ◌+◌, ◌*◌, ◌/◌, ◌%◌, ◌^◌, ◌<◌, ◌==◌, Bool, true, false, ◌&&◌, ◌||◌, List, [], ◌∷◌}
use Rattle.std.proofs.Common.{◌++◌, length, get_or, max, min, bit_or, bit_and, bit_xor, refl, sym, ap, ◌∙◌, subst, arith}
use Rattle.std.proofs.Common.{◌≢◌, ⊎_elim, set, get_or-set_same, get_or-set_other, nat_lt}
use Rattle.std.specs.Int.{bit_at}
use Rattle.std.proofs.Math.Nat.{pow-suc}
use Rattle.std.proofs.lemmas.Nat.{shr_split, shl_whole, or_comm, or_shifted}
use Rattle.std.proofs.lemmas.Nat.Bits.{bit_at_lowest, bit_at-suc, bit_at-zero, bit_at-lt, bit_at_or, bit_at_and, bit_at_xor}
use Rattle.std.proofs.lemmas.Nat.Bits.{bit_at_cat_low, same_from_bits}
use Rattle.std.proofs.Math.Bool.{and-false}
use Rattle.std.proofs.lemmas.Bool.{cases_eq, ne_eqb}
use Rattle.rule_globs.specs.Glob.{ByteSet, exactly, fits}
use Rattle.rule_globs.specs.inner.Blocks.{bit, taken}
use Rattle.rule_globs.specs.inner.ByteBits.{has_bit}
use Rattle.rule_globs.specs.inner.Sweep.{before_each, carries, through}

bit-lt : (b : Bool) → bit b < 2
bit-lt true = omega arith
bit-lt false = omega arith

bit_is_one : (b : Bool) → (bit b == 1) ≡ b
bit_is_one true = refl
bit_is_one false = refl

-- ---- the bytes of a set

pub taken-lt : (set : ByteSet) (bytes : List ℕ) → taken set bytes < 2 ^ length bytes
taken-lt set [] = omega arith
taken-lt set (byte ∷ bytes) =
    omega (arith, taken-lt set bytes, bit-lt (fits set byte), pow-suc 2 (length bytes))

-- one more byte
pub taken-more : (set : ByteSet) (bytes : List ℕ) (byte : ℕ) →
    taken set (bytes ++ byte ∷ []) ≡ bit (fits set byte) * 2 ^ length bytes + taken set bytes
taken-more set [] byte = omega arith
taken-more set (first ∷ bytes) byte =
    let e : bit (fits set byte) * 2 ^ length (first ∷ bytes) ≡ 2 * (bit (fits set byte) * 2 ^ length bytes) =
    ap (λ z. bit (fits set byte) * z) (pow-suc 2 (length bytes)) ∙ omega arith in
    omega (arith, taken-more set bytes byte, e)

-- a word with a bit for one more byte
pub flag_added : (set : ByteSet) (bytes : List ℕ) (byte word count value : ℕ) → count < 64 → length bytes ≡ count →
    word ≡ taken set bytes → value ≡ bit (fits set byte) → bit_or word (value * 2 ^ count % 2 ^ 64) ≡ taken set (bytes ++ byte ∷ [])
flag_added set bytes byte word count value few len same flag =
    let low : word < 2 ^ count = subst (λ z. word < 2 ^ z) len (omega (arith, taken-lt set bytes, same)) in
    let small : value < 2 ^ 1 = omega (arith, bit-lt (fits set byte), flag) in
    ap (bit_or word) (shl_whole value 1 count 64 small (omega (arith, few)))
    ∙ or_comm word (value * 2 ^ count)
    ∙ or_shifted value count word low
    ∙ ap (λ z. z * 2 ^ count + word) flag
    ∙ ap (λ z. bit (fits set byte) * 2 ^ z + word) (sym len)
    ∙ ap (λ z. bit (fits set byte) * 2 ^ length bytes + z) same
    ∙ sym (taken-more set bytes byte)

other_byte : (wanted byte : ℕ) → wanted ≢ byte → fits (exactly wanted) byte ≡ false
other_byte wanted byte ne = ap (λ z. nat_lt 0 byte && z) (ne_eqb wanted byte ne) ∙ and-false (nat_lt 0 byte)

-- the words of all bytes, where the word of one gets its bit
pub words_more : (words bytes : List ℕ) (wanted byte word : ℕ) → get_or words wanted 0 ≡ taken (exactly wanted) bytes →
    word ≡ taken (exactly byte) (bytes ++ byte ∷ []) → byte < length words →
    get_or (set words byte word) wanted 0 ≡ taken (exactly wanted) (bytes ++ byte ∷ [])
words_more words bytes wanted byte word now same within = ⊎_elim
    (λ e. subst (λ z. get_or (set words byte word) z 0 ≡ taken (exactly z) (bytes ++ byte ∷ [])) (sym e)
    (get_or-set_same words byte word 0 within ∙ same))
    (λ (ne : wanted ≢ byte). rw get_or-set_other (now ∙ sym (taken-more (exactly wanted) bytes byte
    ∙ ap (λ z. bit z * 2 ^ length bytes + taken (exactly wanted) bytes) (other_byte wanted byte ne) ∙ omega arith)))
    (cases_eq wanted byte)

-- bit i is whether byte i is in the set
pub bit_at-taken : (set : ByteSet) (bytes : List ℕ) (i : ℕ) → i < length bytes →
    has_bit (taken set bytes) i ≡ fits set (get_or bytes i 0)
bit_at-taken set [] i lt = absurd (omega (arith, lt))
bit_at-taken set (byte ∷ bytes) zero lt =
    let e : (bit (fits set byte) + 2 * taken set bytes) % 2 ≡ bit (fits set byte) = omega (arith, bit-lt (fits set byte)) in
    ap (λ z. z == 1) (bit_at_lowest (taken set (byte ∷ bytes)) ∙ e) ∙ bit_is_one (fits set byte)
bit_at-taken set (byte ∷ bytes) (suc i) lt =
    let e : (bit (fits set byte) + 2 * taken set bytes) / 2 ≡ taken set bytes = omega (arith, bit-lt (fits set byte)) in
    ap (λ z. z == 1) (bit_at-suc (taken set (byte ∷ bytes)) i ∙ ap (λ z. bit_at z i) e) ∙ bit_at-taken set bytes i (omega (arith, lt))

-- ---- a shift

mod_same : (x i : ℕ) → i < 64 → bit_at (x % 2 ^ 64) i ≡ bit_at x i
mod_same x i lt = sym (bit_at_cat_low (x / 2 ^ 64) 64 (x % 2 ^ 64) i lt) ∙ ap (λ z. bit_at z i) (shr_split x 64)

pub before_first : (here : Bool) (reached : ℕ) → has_bit (before_each here reached) 0 ≡ here
before_first here reached =
    let low : bit_at (reached * 2 ^ 1 % 2 ^ 64) 0 ≡ 0 = mod_same (reached * 2 ^ 1) 0 (omega arith) ∙ bit_at_lowest (reached * 2 ^ 1)
    ∙ omega arith in
    let own : bit_at (bit here) 0 ≡ bit here = bit_at_lowest (bit here) ∙ omega (arith, bit-lt here) in
    let e : bit_at (before_each here reached) 0 ≡ bit here = bit_at_or (reached * 2 ^ 1 % 2 ^ 64) (bit here) 0 ∙ omega (arith, low, own) in
    ap (λ z. z == 1) e ∙ bit_is_one here

pub before_next : (here : Bool) (reached i : ℕ) → i + 1 < 64 → has_bit (before_each here reached) (suc i) ≡ has_bit reached i
before_next here reached i lt =
    let high : bit_at (reached * 2 ^ 1 % 2 ^ 64) (suc i) ≡ bit_at reached i = mod_same (reached * 2 ^ 1) (suc i) (omega (arith, lt))
    ∙ bit_at-suc (reached * 2 ^ 1) i ∙ ap (λ z. bit_at z i) (omega arith) in
    let none : bit here / 2 ≡ 0 = omega (arith, bit-lt here) in
    let own : bit_at (bit here) (suc i) ≡ 0 = bit_at-suc (bit here) i ∙ ap (λ z. bit_at z i) none ∙ bit_at-zero i in
    let e : bit_at (before_each here reached) (suc i) ≡ bit_at reached i =
    bit_at_or (reached * 2 ^ 1 % 2 ^ 64) (bit here) (suc i) ∙ omega (arith, high, own) in
    ap (λ z. z == 1) e

-- ---- a sum

-- what is carried into bit i of a sum
abbrev pub carry_at : ℕ → ℕ → ℕ → ℕ → ℕ
carry_at c x y zero = c
carry_at c x y (suc i) = (bit_at x i + bit_at y i + carry_at c x y i) / 2

carry_at-lt : (c x y i : ℕ) → c < 2 → carry_at c x y i < 2
carry_at-lt c x y zero lt = lt
carry_at-lt c x y (suc i) lt = omega (arith, bit_at-lt x i, bit_at-lt y i, carry_at-lt c x y i lt)

-- the carry after the lowest bits is the one into the other bits
carry-halves : (c x y i : ℕ) → carry_at ((x % 2 + y % 2 + c) / 2) (x / 2) (y / 2) i ≡ carry_at c x y (suc i)
carry-halves c x y zero = omega (arith, bit_at_lowest x, bit_at_lowest y)
carry-halves c x y (suc i) = omega (arith, carry-halves c x y i, bit_at-suc x i, bit_at-suc y i)

bits_of_sum : (c x y i : ℕ) → bit_at (x + y + c) i ≡ (bit_at x i + bit_at y i + carry_at c x y i) % 2
bits_of_sum c x y zero = bit_at_lowest (x + y + c) ∙ omega (arith, bit_at_lowest x, bit_at_lowest y)
bits_of_sum c x y (suc i) =
    let halves : (x + y + c) / 2 ≡ x / 2 + y / 2 + (x % 2 + y % 2 + c) / 2 = omega arith in
    bit_at-suc (x + y + c) i ∙ ap (λ z. bit_at z i) halves ∙ bits_of_sum ((x % 2 + y % 2 + c) / 2) (x / 2) (y / 2) i
    ∙ omega (arith, carry-halves c x y i, bit_at-suc x i, bit_at-suc y i)

bit_at-carries : (here : Bool) (x y i : ℕ) → i < 64 → bit_at (carries here x y) i ≡ carry_at (bit here) x y i
bit_at-carries here x y i lt =
    let sum : ((x + y) % 2 ^ 64 + bit here) % 2 ^ 64 ≡ (x + y + bit here) % 2 ^ 64 = omega arith in
    let s : ℕ = ((x + y) % 2 ^ 64 + bit here) % 2 ^ 64 in
    let top : bit_at s i ≡ (bit_at x i + bit_at y i + carry_at (bit here) x y i) % 2 =
    ap (λ z. bit_at z i) sum ∙ mod_same (x + y + bit here) i lt ∙ bits_of_sum (bit here) x y i in
    bit_at_xor (bit_xor s x) y i ∙ ap (λ z. (z + bit_at y i) % 2) (bit_at_xor s x i)
    ∙ omega (arith, top, bit_at-lt x i, bit_at-lt y i, carry_at-lt (bit here) x y i (bit-lt here))

-- Before byte i a run is live: at first as it is here, and then where it is left.
abbrev pub run_before : Bool → ℕ → ℕ → ℕ → Bool
run_before here reached taken zero = here
run_before here reached taken (suc i) = has_bit (through here reached taken) i

-- the bit of a run is the carry that comes from it
bit_at-through : (here : Bool) (reached taken i : ℕ) → i < 64 →
    bit_at (through here reached taken) i ≡ carry_at (bit here) reached (bit_or reached taken) (suc i)
bit_at-through here reached taken i lt =
    let either : ℕ = bit_or reached taken in
    let k : ℕ = carry_at (bit here) reached either i in
    let a = bit_at_or reached (bit_and taken (carries here reached either)) i in
    let b = bit_at_and taken (carries here reached either) i in
    let c = bit_at-carries here reached either i lt in
    let d = bit_at_or reached taken i in
    omega (arith, a, b, c, d, bit_at-lt reached i, bit_at-lt taken i, carry_at-lt (bit here) reached either i (bit-lt here))

table : (r t k : ℕ) → r < 2 → t < 2 → k < 2 → (max r (min t k) == 1) ≡ ((r == 1) || ((k == 1) && (t == 1)))
table zero zero zero a b c = refl
table zero zero (suc zero) a b c = refl
table zero (suc zero) zero a b c = refl
table zero (suc zero) (suc zero) a b c = refl
table (suc zero) zero zero a b c = refl
table (suc zero) zero (suc zero) a b c = refl
table (suc zero) (suc zero) zero a b c = refl
table (suc zero) (suc zero) (suc zero) a b c = refl
table (suc (suc x)) y z a b c = absurd (omega (arith, a))
table x (suc (suc y)) z a b c = absurd (omega (arith, b))
table x y (suc (suc z)) a b c = absurd (omega (arith, c))

carried_before : (here : Bool) (reached taken i : ℕ) → i < 64 →
    (carry_at (bit here) reached (bit_or reached taken) i == 1) ≡ run_before here reached taken i
carried_before here reached taken zero lt = bit_is_one here
carried_before here reached taken (suc i) lt = ap (λ z. z == 1) (sym (bit_at-through here reached taken i (omega (arith, lt))))

-- a run is left where it is reached, and where it is live and takes the byte
pub through_bit : (here : Bool) (reached taken i : ℕ) → i < 64 →
    has_bit (through here reached taken) i ≡ (has_bit reached i || (run_before here reached taken i && has_bit taken i))
through_bit here reached taken i lt =
    let either : ℕ = bit_or reached taken in
    let k : ℕ = carry_at (bit here) reached either i in
    let bits : bit_at (through here reached taken) i ≡ max (bit_at reached i) (min (bit_at taken i) k) =
    bit_at_or reached (bit_and taken (carries here reached either)) i
    ∙ ap (λ z. max (bit_at reached i) z) (bit_at_and taken (carries here reached either) i
    ∙ ap (λ z. min (bit_at taken i) z) (bit_at-carries here reached either i lt)) in
    ap (λ z. z == 1) bits
    ∙ table (bit_at reached i) (bit_at taken i) k (bit_at-lt reached i) (bit_at-lt taken i)
    (carry_at-lt (bit here) reached either i (bit-lt here))
    ∙ ap (λ z. has_bit reached i || (z && has_bit taken i)) (carried_before here reached taken i lt)

-- ---- words together

both_table : (x y : ℕ) → x < 2 → y < 2 → (min x y == 1) ≡ ((x == 1) && (y == 1))
both_table zero zero a b = refl
both_table zero (suc zero) a b = refl
both_table (suc zero) zero a b = refl
both_table (suc zero) (suc zero) a b = refl
both_table (suc (suc x)) y a b = absurd (omega (arith, a))
both_table x (suc (suc y)) a b = absurd (omega (arith, b))

either_table : (x y : ℕ) → x < 2 → y < 2 → (max x y == 1) ≡ ((x == 1) || (y == 1))
either_table zero zero a b = refl
either_table zero (suc zero) a b = refl
either_table (suc zero) zero a b = refl
either_table (suc zero) (suc zero) a b = refl
either_table (suc (suc x)) y a b = absurd (omega (arith, a))
either_table x (suc (suc y)) a b = absurd (omega (arith, b))

pub has_bit-and : (x y i : ℕ) → has_bit (bit_and x y) i ≡ (has_bit x i && has_bit y i)
has_bit-and x y i = ap (λ z. z == 1) (bit_at_and x y i) ∙ both_table (bit_at x i) (bit_at y i) (bit_at-lt x i) (bit_at-lt y i)

pub has_bit-or : (x y i : ℕ) → has_bit (bit_or x y) i ≡ (has_bit x i || has_bit y i)
has_bit-or x y i = ap (λ z. z == 1) (bit_at_or x y i) ∙ either_table (bit_at x i) (bit_at y i) (bit_at-lt x i) (bit_at-lt y i)

pub has_bit-zero : (i : ℕ) → has_bit 0 i ≡ false
has_bit-zero i = ap (λ z. z == 1) (bit_at-zero i)

-- bit 0 alone
pub has_bit-one_suc : (i : ℕ) → has_bit 1 (suc i) ≡ false
has_bit-one_suc i = ap (λ z. z == 1) (bit_at-suc 1 i ∙ bit_at-zero i)

pub or_together : (x y z : ℕ) → bit_or x (bit_or y z) ≡ bit_or (bit_or x y) z
or_together x y z = same_from_bits (bit_or x (bit_or y z)) (bit_or (bit_or x y) z)
    (λ i. omega (arith, bit_at_or x (bit_or y z) i, bit_at_or y z i, bit_at_or (bit_or x y) z i, bit_at_or x y i))
