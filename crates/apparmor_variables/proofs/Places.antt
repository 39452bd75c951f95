-- The place of the first element that passes a test.
use Rattle.std.proofs.Common.{◌≡◌, ℕ, suc, ◌+◌, ◌-◌, ◌<◌, ◌≤◌, Bool, true, false, cond, List, [], ◌∷◌, ◌++◌, length, Option, Some, None}
use Rattle.std.proofs.Common.{refl, sym, ap, ◌∙◌, arith}
use Rattle.std.specs.Prelude.{find, slice_get}
use Rattle.std.specs.List.{position_from}

-- the first of the two, if there is one
abbrev pub first_of_two : {A : Type 0} → Option A → Option A → Option A
first_of_two None y = y
first_of_two (Some x) y = Some x

pub position_from-more : {X : Type 0} (test : X → Bool) (n : ℕ) (xs : List X) (x : X)
    → position_from test n (xs ++ x ∷ []) ≡ first_of_two (position_from test n xs) (cond (test x) (Some (n + length xs)) None)
position_from-more test n [] x = ap (λ k. cond (test x) (Some k) None) (omega arith)
position_from-more test n (y ∷ xs) x =
    let rest = position_from-more test (n + 1) xs x in
    let same : (n + 1) + length xs ≡ n + suc (length xs) = omega arith in
    elim (test y) as (λ t. cond t (Some n) (position_from test (n + 1) (xs ++ x ∷ []))
    ≡ first_of_two (cond t (Some n) (position_from test (n + 1) xs)) (cond (test x) (Some (n + suc (length xs))) None)) [
      | true ↦ refl
      | false ↦ rest ∙ ap (λ k. first_of_two (position_from test (n + 1) xs) (cond (test x) (Some k) None)) same
    ]

-- if no place is found, no element is
pub find_nothing : {X : Type 0} (test : X → Bool) (n : ℕ) (xs : List X) → position_from test n xs ≡ None → find test xs ≡ None
find_nothing test n [] e = refl
find_nothing test n (y ∷ xs) e =
    let P : (t : Bool) → cond t (Some n) (position_from test (n + 1) xs) ≡ None → cond t (Some y) (find test xs) ≡ None =
    λ t. elim t as (λ t. cond t (Some n) (position_from test (n + 1) xs) ≡ None → cond t (Some y) (find test xs) ≡ None) [
      | true ↦ λ h. absurd cc
      | false ↦ λ h. find_nothing test (n + 1) xs h
    ] in
    P (test y) e

-- the element at the first place that passes
pub record IsFound {X : Type 0} (test : X → Bool) (n : ℕ) (xs : List X) (place : ℕ) : Type 0 where
  pub from : n ≤ place
  pub within : place - n < length xs
  pub there : find test xs ≡ slice_get xs (place - n)

pub find_place : {X : Type 0} (test : X → Bool) (n : ℕ) (xs : List X) (place : ℕ) → position_from test n xs ≡ Some place →
    IsFound test n xs place
find_place test n [] place e = absurd cc
find_place test n (y ∷ xs) place e =
    let P : (t : Bool) → cond t (Some n) (position_from test (n + 1) xs) ≡ Some place → (n ≤ place) × (place - n < length (y ∷ xs))
    × (cond t (Some y) (find test xs) ≡ slice_get (y ∷ xs) (place - n)) =
    λ t. elim t as (λ t. cond t (Some n) (position_from test (n + 1) xs) ≡ Some place → (n ≤ place) × (place - n < length (y ∷ xs))
    × (cond t (Some y) (find test xs) ≡ slice_get (y ∷ xs) (place - n))) [
      | true ↦ λ h. let same : n ≡ place = cc in let zeroth : place - n ≡ 0 = omega arith in
          (omega arith, omega arith, ap (slice_get (y ∷ xs)) (sym zeroth))
      | false ↦ λ h. let r = find_place test (n + 1) xs place h in let next : place - n ≡ suc (place - (n + 1)) = omega (arith, r.from) in
          (omega (arith, r.from), omega (arith, r.within, r.from), r.there ∙ ap (slice_get (y ∷ xs)) (sym next))
    ] in
    let r = P (test y) e in
    record { from = r.0; within = r.1; there = r.2 }
