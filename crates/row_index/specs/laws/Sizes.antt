-- How many places an index has.
use Rattle.std.proofs.Common.{◌≡◌, ◌≢◌, ℕ, zero, suc, ◌+◌, ◌*◌, ◌/◌, ◌^◌, ◌<◌, ◌≤◌, max, refl, sym, ap, ◌∙◌, subst}
use Rattle.std.proofs.Common.{pow-suc, pow_mono, arith}
use Rattle.std.proofs.lemmas.Bool.{lt-ltb, le-ltb, cases_lt}
use Rattle.std.proofs.lemmas.Nat.{pow_pos}
use mathlib.Core.Logic.{inl, inr, dite}
use native.Mathlib.Decide.{ℕ_discrete}
use Rattle.row_index.specs.Places.{doubled_to, index_length}

-- at least `n`, once the doublings are enough
doubled_enough : (most n power : ℕ) → n ≤ most + power → 0 < power → n ≤ doubled_to most n power
unfolding doubled_to
doubled_enough zero n power h pos = omega arith
doubled_enough (suc most) n power h pos = elim (cases_lt power n) [
  | inl l ↦ rw (lt-ltb power n l) (doubled_enough most n (2 * power) (omega arith) (omega arith))
  | inr g ↦ rw (le-ltb power n g) g
]

-- and no more than need be
doubled_least : (most n power : ℕ) → power ≤ max 1 (2 * n) → doubled_to most n power ≤ max 1 (2 * n)
unfolding doubled_to
doubled_least zero n power h = h
doubled_least (suc most) n power h = elim (cases_lt power n) [
  | inl l ↦ rw (lt-ltb power n l) (doubled_least most n (2 * power) (omega arith))
  | inr g ↦ rw (le-ltb power n g) h
]

pub index_enough : (capacity : ℕ) → 2 * capacity ≤ index_length capacity
unfolding index_length
index_enough capacity = doubled_enough (2 * capacity) (2 * capacity) 1 (omega arith) (omega arith)

pub index_most : (capacity : ℕ) → index_length capacity ≤ max 1 (4 * capacity)
unfolding index_length
index_most capacity = let a = doubled_least (2 * capacity) (2 * capacity) 1 (omega arith) in omega arith

doubled_past : (most n power : ℕ) → 0 < power → 0 < doubled_to most n power
unfolding doubled_to
doubled_past zero n power pos = pos
doubled_past (suc most) n power pos = elim (cases_lt power n) [
  | inl l ↦ rw (lt-ltb power n l) (doubled_past most n (2 * power) (omega arith))
  | inr g ↦ rw (le-ltb power n g) pos
]

pub index_some : (capacity : ℕ) → 0 < index_length capacity
unfolding index_length
index_some capacity = doubled_past (2 * capacity) (2 * capacity) 1 (omega arith)

twice : (k m : ℕ) → k < m → 2 * 2 ^ k ≤ 2 ^ m
twice k m l =
    let d : 2 ^ suc k ≡ 2 ^ k * 2 = pow-suc 2 k in
    dite (ℕ_discrete (suc k) m)
    (λ e. let s : 2 ^ suc k ≡ 2 ^ m = ap (λ (z : ℕ). 2 ^ z) e in omega arith)
    (λ other. let z : suc k ≤ m = omega arith in let q : 2 ^ suc k ≤ 2 ^ m = pow_mono z in omega arith)

doubled_is : (most n k m : ℕ) → k ≤ m → m ≤ k + most → n ≤ 2 ^ m → 2 ^ m / 2 < max 1 n → doubled_to most n (2 ^ k) ≡ 2 ^ m
unfolding doubled_to
doubled_is zero n k m low high enough least = ap (λ (z : ℕ). 2 ^ z) (let e : k ≡ m = omega arith in e)
doubled_is (suc most) n k m low high enough least = elim (cases_lt (2 ^ k) n) [
  | inl l ↦
      let other : k ≢ m = λ e. let s : 2 ^ k ≡ 2 ^ m = ap (λ (z : ℕ). 2 ^ z) e in absurd (omega arith) in
      let d : 2 * 2 ^ k ≡ 2 ^ suc k = (let q = pow-suc 2 k in omega arith) in
      rw (lt-ltb (2 ^ k) n l)
      (subst (λ (z : ℕ). doubled_to most n z ≡ 2 ^ m) (sym d) (doubled_is most n (suc k) m (omega arith) (omega arith) enough least))
  | inr g ↦ rw (le-ltb (2 ^ k) n g) (dite (ℕ_discrete k m)
      (λ e. ap (λ (z : ℕ). 2 ^ z) e)
      (λ other. let t = twice k m (omega arith) in let p = pow_pos k in absurd (omega arith)))
]

-- the length is a power of two, and none that is enough is less
doubled_power : (most n k : ℕ) → (j : ℕ) × (doubled_to most n (2 ^ k) ≡ 2 ^ j)
unfolding doubled_to
doubled_power zero n k = (k, refl)
doubled_power (suc most) n k = elim (cases_lt (2 ^ k) n) [
  | inl l ↦
      let d : 2 * 2 ^ k ≡ 2 ^ suc k = (let q = pow-suc 2 k in omega arith) in
      let more = doubled_power most n (suc k) in
      (more.0, rw (lt-ltb (2 ^ k) n l, d) more.1)
  | inr g ↦ (k, rw (le-ltb (2 ^ k) n g))
]

doubled_below : (most n k j : ℕ) → k ≤ j → n ≤ 2 ^ j → doubled_to most n (2 ^ k) ≤ 2 ^ j
unfolding doubled_to
doubled_below zero n k j low enough = pow_mono low
doubled_below (suc most) n k j low enough = elim (cases_lt (2 ^ k) n) [
  | inl l ↦
      let other : k ≢ j = λ e. let s : 2 ^ k ≡ 2 ^ j = ap (λ (z : ℕ). 2 ^ z) e in absurd (omega arith) in
      let d : 2 * 2 ^ k ≡ 2 ^ suc k = (let q = pow-suc 2 k in omega arith) in
      rw (lt-ltb (2 ^ k) n l, d) (doubled_below most n (suc k) j (omega arith) enough)
  | inr g ↦ rw (le-ltb (2 ^ k) n g) (pow_mono low)
]

pub index_power : (capacity : ℕ) → (k : ℕ) × (index_length capacity ≡ 2 ^ k)
unfolding index_length
index_power capacity = doubled_power (2 * capacity) (2 * capacity) 0

pub index_least : (capacity j : ℕ) → 2 * capacity ≤ 2 ^ j → index_length capacity ≤ 2 ^ j
unfolding index_length
index_least capacity j enough = doubled_below (2 * capacity) (2 * capacity) 0 j (omega arith) enough

grows : (m : ℕ) → m < 2 ^ m
grows zero = omega arith
grows (suc m) = let g = grows m in let d : 2 ^ suc m ≡ 2 ^ m * 2 = pow-suc 2 m in omega arith

pub length_is : (n m : ℕ) → n ≤ 2 ^ m → 2 ^ m / 2 < max 1 n → doubled_to n n 1 ≡ 2 ^ m
length_is n zero enough least = doubled_is n n 0 0 (omega arith) (omega arith) enough least
length_is n (suc j) enough least =
    let g = grows j in
    let d : 2 ^ suc j ≡ 2 ^ j * 2 = pow-suc 2 j in
    doubled_is n n 0 (suc j) (omega arith) (let z : suc j ≤ n = omega arith in omega arith) enough least

-- the least power of two is the length
pub index_is : (capacity r k : ℕ) → r ≡ 2 ^ k → 2 * capacity ≤ r → r / 2 < max 1 (2 * capacity) → r ≡ index_length capacity
unfolding index_length
index_is capacity r k is enough least =
    is ∙ sym (length_is (2 * capacity) k (subst (λ (z : ℕ). 2 * capacity ≤ z) is enough)
    (subst (λ (z : ℕ). z / 2 < max 1 (2 * capacity)) is least))
