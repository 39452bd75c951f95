-- The places of bytes in the order of names.
use Rattle.std.proofs.Common.{◌≡◌, ◌⊎◌, inl, inr, ⊎_elim, ℕ, ◌+◌, ◌-◌, ◌<◌, ◌≤◌, ap, ◌∙◌, arith, if◌then◌else◌, nat_lt}
use Rattle.std.proofs.lemmas.Bool.{cases_lt, lt-ltb, le-ltb}
use Rattle.automaton_search.specs.Order.{place_of}
use Rattle.automaton_search.specs.inner.Walks.{IsStretch}

-- below `a`, from `a` on, and no byte
low : (b : ℕ) → b < 97 → place_of b ≡ b + 159
low b lt = ap (λ z. if z then b + 159 else (if nat_lt b 256 then b - 97 else b)) (lt-ltb b 97 lt)

high : (b : ℕ) → 97 ≤ b → b < 256 → place_of b ≡ b - 97
high b le lt =
    ap (λ z. if z then b + 159 else (if nat_lt b 256 then b - 97 else b)) (le-ltb b 97 le)
    ∙ ap (λ z. if z then b - 97 else b) (lt-ltb b 256 lt)

no_byte : (b : ℕ) → 256 ≤ b → place_of b ≡ b
no_byte b le =
    ap (λ z. if z then b + 159 else (if nat_lt b 256 then b - 97 else b)) (le-ltb b 97 (omega (arith, le)))
    ∙ ap (λ z. if z then b - 97 else b) (le-ltb b 256 le)

-- the three cases
abbrev IsPlace : ℕ → ℕ → Type 0
IsPlace b p = ((b < 97) × (p ≡ b + 159)) ⊎ (((97 ≤ b) × (b < 256) × (p + 97 ≡ b)) ⊎ ((256 ≤ b) × (p ≡ b)))

place : (b : ℕ) → IsPlace b (place_of b)
place b = ⊎_elim
    (λ lt. inl (lt, low b lt))
    (λ le. ⊎_elim
    (λ lt. inr (inl (le, lt, let is = high b le lt in omega (arith, is, le))))
    (λ more. inr (inr (more, no_byte b more)))
    (cases_lt b 256))
    (cases_lt b 97)

pub one_place : (a b : ℕ) → place_of a ≡ place_of b → a ≡ b
one_place a b same = omega (arith, place a, place b, same)

pub places_ascend : (first last : ℕ) → IsStretch first last → place_of first ≤ place_of last
places_ascend first last is = omega (arith, place first, place last, is)

-- what has places from that of one byte to that of another is one of the bytes between them
pub between : (first last c : ℕ) → IsStretch first last → place_of first ≤ place_of c → place_of c ≤ place_of last →
    (first ≤ c) × (c ≤ last)
between first last c is from to = omega (arith, place first, place last, place c, is, from, to)

-- the places of bytes that follow one another on one side of `a` do so, too
pub place_after : (first b last : ℕ) → IsStretch first last → first ≤ b → b < last → place_of (b + 1) ≡ place_of b + 1
place_after first b last is from to = omega (arith, place b, place (b + 1), is, from, to)

-- of a name's bytes none has a place between the last byte and byte 1
pub no_zero : (b : ℕ) → 0 < b → place_of b < 160 → place_of b < 159
no_zero b some lt = omega (arith, place b, some, lt)

pub all_bytes : (b : ℕ) → b < 256 → place_of b < 256
all_bytes b lt = omega (arith, place b, lt)

-- a part of a stretch is one
pub part : (first last from to : ℕ) → IsStretch first last → first ≤ from → from ≤ to → to ≤ last → IsStretch from to
part first last from to is after within before =
    (within, omega (arith, is.1, before), ⊎_elim (λ le. inl (omega (arith, le, after))) (λ lt. inr (omega (arith, lt, before))) is.2)
