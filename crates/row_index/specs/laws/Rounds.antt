-- Places that go round.
use Rattle.std.proofs.Common.{◌≡◌, ◌≢◌, ℕ, ◌+◌, ◌-◌, ◌<◌, ◌≤◌, sym, ap, ◌∙◌, arith}
use Rattle.std.proofs.lemmas.Bool.{lt-ltb, le-ltb, cases_lt}
use mathlib.Core.Logic.{◌⊎◌, inl, inr}
use Rattle.row_index.specs.Places.{around, way}

pub around_low : (size n : ℕ) → n < size → around size n ≡ n
unfolding around
around_low size n h = rw (lt-ltb n size h)

pub around_high : (size n : ℕ) → size ≤ n → around size n ≡ n - size
unfolding around
around_high size n h = rw (le-ltb n size h)

-- in terms that arithmetic reads
pub around_either : (size n : ℕ) → ((n < size) × (around size n ≡ n)) ⊎ ((size ≤ n) × (around size n ≡ n - size))
around_either size n = elim (cases_lt n size) [
  | inl l ↦ inl (l, around_low size n l)
  | inr g ↦ inr (g, around_high size n g)
]

pub around_within : (size n : ℕ) → n < size + size → around size n < size
around_within size n h = elim (around_either size n) [
  | inl e ↦ let a = e.0 in let b = e.1 in omega arith
  | inr e ↦ let a = e.0 in let b = e.1 in omega arith
]

-- the next place
pub around_next : (size n : ℕ) → n + 1 < size + size → around size (around size n + 1) ≡ around size (n + 1)
around_next size n h = elim (around_either size n) [
  | inl e ↦ let a = e.0 in let b = e.1 in ap_around b
  | inr e ↦
      let a = e.0 in
      let b = e.1 in
      let low = around_low size (around size n + 1) (omega arith) in
      let high = around_high size (n + 1) (omega arith) in
      omega arith
]
  where
    ap_around : around size n ≡ n → around size (around size n + 1) ≡ around size (n + 1)
    ap_around b = rw b

-- the place after the one before
pub around_back : (size p : ℕ) → p < size → around size (around size (p + (size - 1)) + 1) ≡ p
around_back size p h =
    let next = around_next size (p + (size - 1)) (omega arith) in
    let turn : p + (size - 1) + 1 ≡ p + size = omega arith in
    let high = around_high size (p + size) (omega arith) in
    next ∙ ap (around size) turn ∙ (let e : around size (p + size) ≡ p = omega arith in e)

-- places within one turn differ
pub around_apart : (size h i k : ℕ) → h < size → i < size → k < size → around size (h + i) ≡ around size (h + k) → i ≡ k
around_apart size h i k hs is ks same = elim (around_either size (h + i)) [
  | inl e ↦ elim (around_either size (h + k)) [
    | inl f ↦ let a = e.0 in let b = e.1 in let c = f.0 in let d = f.1 in omega arith
    | inr f ↦ let a = e.0 in let b = e.1 in let c = f.0 in let d = f.1 in omega arith
  ]
  | inr e ↦ elim (around_either size (h + k)) [
    | inl f ↦ let a = e.0 in let b = e.1 in let c = f.0 in let d = f.1 in omega arith
    | inr f ↦ let a = e.0 in let b = e.1 in let c = f.0 in let d = f.1 in omega arith
  ]
]

-- a search that continues from place to place
pub around_start : (size home : ℕ) → home < size → home ≡ around size (home + 0)
around_start size home h = let e = around_low size (home + 0) (omega arith) in omega arith

pub around_more : (size home step place next : ℕ) → next ≡ around size (place + 1) → place ≡ around size (home + step)
    → home + step + 1 < size + size → next ≡ around size (home + (step + 1))
around_more size home step place next is at near =
    is ∙ ap (λ (z : ℕ). around size (z + 1)) at ∙ around_next size (home + step) near
    ∙ ap (around size) (let e : home + step + 1 ≡ home + (step + 1) = omega arith in e)

-- the way from a place to another
pub way_wrapped : (size from to : ℕ) → to < from → way size from to ≡ to + size - from
unfolding way
way_wrapped size from to h = rw (lt-ltb to from h)

pub way_straight : (size from to : ℕ) → from ≤ to → way size from to ≡ to - from
unfolding way
way_straight size from to h = rw (le-ltb to from h)

pub way_either : (size from to : ℕ) → ((to < from) × (way size from to ≡ to + size - from)) ⊎
    ((from ≤ to) × (way size from to ≡ to - from))
way_either size from to = elim (cases_lt to from) [
  | inl l ↦ inl (l, way_wrapped size from to l)
  | inr g ↦ inr (g, way_straight size from to g)
]

pub way_within : (size from to : ℕ) → from < size → to < size → way size from to < size
way_within size from to f t = elim (way_either size from to) [
  | inl e ↦ let a = e.0 in let b = e.1 in omega arith
  | inr e ↦ let a = e.0 in let b = e.1 in omega arith
]

-- the way to the place that is this many steps on
pub way_around : (size home steps : ℕ) → home < size → steps < size → way size home (around size (home + steps)) ≡ steps
way_around size home steps h near = elim (around_either size (home + steps)) [
  | inl e ↦ elim (way_either size home (around size (home + steps))) [
    | inl f ↦ let a = e.0 in let b = e.1 in let c = f.0 in let d = f.1 in omega arith
    | inr f ↦ let a = e.0 in let b = e.1 in let c = f.0 in let d = f.1 in omega arith
  ]
  | inr e ↦ elim (way_either size home (around size (home + steps))) [
    | inl f ↦ let a = e.0 in let b = e.1 in let c = f.0 in let d = f.1 in omega arith
    | inr f ↦ let a = e.0 in let b = e.1 in let c = f.0 in let d = f.1 in omega arith
  ]
]

-- the place that the way leads to
pub around_way : (size home p : ℕ) → home < size → p < size → around size (home + way size home p) ≡ p
around_way size home p h near = elim (way_either size home p) [
  | inl e ↦ elim (around_either size (home + way size home p)) [
    | inl f ↦ let a = e.0 in let b = e.1 in let c = f.0 in let d = f.1 in omega arith
    | inr f ↦ let a = e.0 in let b = e.1 in let c = f.0 in let d = f.1 in omega arith
  ]
  | inr e ↦ elim (around_either size (home + way size home p)) [
    | inl f ↦ let a = e.0 in let b = e.1 in let c = f.0 in let d = f.1 in omega arith
    | inr f ↦ let a = e.0 in let b = e.1 in let c = f.0 in let d = f.1 in omega arith
  ]
]

pub way_apart : (size home p q : ℕ) → home < size → p < size → q < size → way size home p ≡ way size home q → p ≡ q
way_apart size home p q h near far same =
    sym (around_way size home p h near) ∙ ap (λ (z : ℕ). around size (home + z)) same ∙ around_way size home q h far

-- a way over a place is the way to it, and the way from it on
pub way_on : (size home p q : ℕ) → home < size → p < size → q < size → way size home p + way size p q < size
    → way size home q ≡ way size home p + way size p q
way_on size home p q h near far short = elim (way_either size home p) [
  | inl e ↦ elim (way_either size p q) [
    | inl f ↦ let a = e.0 in let b = e.1 in let c = f.0 in let d = f.1 in elim (way_either size home q) [
      | inl g ↦ let i = g.0 in let j = g.1 in omega arith
      | inr g ↦ let i = g.0 in let j = g.1 in omega arith
    ]
    | inr f ↦ let a = e.0 in let b = e.1 in let c = f.0 in let d = f.1 in elim (way_either size home q) [
      | inl g ↦ let i = g.0 in let j = g.1 in omega arith
      | inr g ↦ let i = g.0 in let j = g.1 in omega arith
    ]
  ]
  | inr e ↦ elim (way_either size p q) [
    | inl f ↦ let a = e.0 in let b = e.1 in let c = f.0 in let d = f.1 in elim (way_either size home q) [
      | inl g ↦ let i = g.0 in let j = g.1 in omega arith
      | inr g ↦ let i = g.0 in let j = g.1 in omega arith
    ]
    | inr f ↦ let a = e.0 in let b = e.1 in let c = f.0 in let d = f.1 in elim (way_either size home q) [
      | inl g ↦ let i = g.0 in let j = g.1 in omega arith
      | inr g ↦ let i = g.0 in let j = g.1 in omega arith
    ]
  ]
]

pub way_through : (size home p q : ℕ) → home < size → p < size → q < size → way size home p ≤ way size home q
    → way size home q ≡ way size home p + way size p q
way_through size home p q h near far passed = elim (way_either size home p) [
  | inl e ↦ elim (way_either size p q) [
    | inl f ↦ let a = e.0 in let b = e.1 in let c = f.0 in let d = f.1 in elim (way_either size home q) [
      | inl g ↦ let i = g.0 in let j = g.1 in omega arith
      | inr g ↦ let i = g.0 in let j = g.1 in omega arith
    ]
    | inr f ↦ let a = e.0 in let b = e.1 in let c = f.0 in let d = f.1 in elim (way_either size home q) [
      | inl g ↦ let i = g.0 in let j = g.1 in omega arith
      | inr g ↦ let i = g.0 in let j = g.1 in omega arith
    ]
  ]
  | inr e ↦ elim (way_either size p q) [
    | inl f ↦ let a = e.0 in let b = e.1 in let c = f.0 in let d = f.1 in elim (way_either size home q) [
      | inl g ↦ let i = g.0 in let j = g.1 in omega arith
      | inr g ↦ let i = g.0 in let j = g.1 in omega arith
    ]
    | inr f ↦ let a = e.0 in let b = e.1 in let c = f.0 in let d = f.1 in elim (way_either size home q) [
      | inl g ↦ let i = g.0 in let j = g.1 in omega arith
      | inr g ↦ let i = g.0 in let j = g.1 in omega arith
    ]
  ]
]

-- a way that passes a place passes each one that is nearer to that place than its own end is
pub way_between : (size home p q end : ℕ) → home < size → p < size → q < size → end < size → way size home p ≤ way size home end
    → way size p q ≤ way size p end → way size home q ≤ way size home end
way_between size home p q end h near far last passed nearer =
    let whole = way_through size home p end h near last passed in
    let short = way_within size home end h last in
    let on = way_on size home p q h near far (omega arith) in
    omega arith

-- where no step is left, the place is reached
pub way_none : (size p q : ℕ) → p < size → q < size → way size p q ≡ 0 → p ≡ q
way_none size p q near far none =
    let e : p + way size p q ≡ p = omega arith in
    sym (around_low size p near) ∙ ap (around size) (sym e) ∙ around_way size p q near far

-- one step fewer is left from the next place
pub way_less : (size p q : ℕ) → p < size → q < size → p ≢ q → way size (around size (p + 1)) q + 1 ≡ way size p q
way_less size p q near far other = elim (around_either size (p + 1)) [
  | inl e ↦ let a = e.0 in let b = e.1 in elim (way_either size p q) [
    | inl f ↦ let c = f.0 in let d = f.1 in elim (way_either size (around size (p + 1)) q) [
      | inl g ↦ let i = g.0 in let j = g.1 in omega arith
      | inr g ↦ let i = g.0 in let j = g.1 in omega arith
    ]
    | inr f ↦ let c = f.0 in let d = f.1 in elim (way_either size (around size (p + 1)) q) [
      | inl g ↦ let i = g.0 in let j = g.1 in let apart : p < q = (omega (arith, other)) in omega arith
      | inr g ↦ let i = g.0 in let j = g.1 in omega arith
    ]
  ]
  | inr e ↦ let a = e.0 in let b = e.1 in elim (way_either size p q) [
    | inl f ↦ let c = f.0 in let d = f.1 in elim (way_either size (around size (p + 1)) q) [
      | inl g ↦ let i = g.0 in let j = g.1 in omega arith
      | inr g ↦ let i = g.0 in let j = g.1 in omega arith
    ]
    | inr f ↦ let c = f.0 in let d = f.1 in elim (way_either size (around size (p + 1)) q) [
      | inl g ↦ let i = g.0 in let j = g.1 in omega arith
      | inr g ↦ let i = g.0 in let j = g.1 in omega arith
    ]
  ]
]
