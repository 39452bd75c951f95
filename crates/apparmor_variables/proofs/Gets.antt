-- Elements of lists by their places.
use Rattle.std.proofs.Common.{◌≡◌, ◌≢◌, ℕ, zero, suc, ◌+◌, ◌<◌, List, [], ◌∷◌, ◌++◌, length, take, drop, set, get_or, Some, refl, sym, ap}
use Rattle.std.proofs.Common.{◌∙◌, ◌⊎◌, inl, inr, arith}
use Rattle.std.specs.Prelude.{slice_get, Contains}

pub get_set_same : {X : Type 0} (xs : List X) (i : ℕ) (x : X) → i < length xs → slice_get (set xs i x) i ≡ Some x
get_set_same [] i x low = absurd (omega arith)
get_set_same (y ∷ xs) zero x low = refl
get_set_same (y ∷ xs) (suc i) x low = get_set_same xs i x (omega arith)

pub get_set_other : {X : Type 0} (xs : List X) (i j : ℕ) (x : X) → j ≢ i → slice_get (set xs i x) j ≡ slice_get xs j
get_set_other [] i j x apart = refl
get_set_other (y ∷ xs) zero zero x apart = absurd (apart refl)
get_set_other (y ∷ xs) zero (suc j) x apart = refl
get_set_other (y ∷ xs) (suc i) zero x apart = refl
get_set_other (y ∷ xs) (suc i) (suc j) x apart = get_set_other xs i j x (λ e. apart (ap suc e))

pub get_at : {X : Type 0} (xs ys : List X) (x : X) → slice_get (xs ++ x ∷ ys) (length xs) ≡ Some x
get_at [] ys x = refl
get_at (y ∷ xs) ys x = get_at xs ys x

pub split_at_get : {X : Type 0} (xs : List X) (k : ℕ) (x : X) → slice_get xs k ≡ Some x → xs ≡ take k xs ++ x ∷ drop (suc k) xs
split_at_get [] k x e = absurd cc
split_at_get (y ∷ xs) zero x e = let h : y ≡ x = cc in ap (λ z. z ∷ xs) h
split_at_get (y ∷ xs) (suc k) x e = ap (λ ys. y ∷ ys) (split_at_get xs k x e)

pub get_within : {X : Type 0} (xs : List X) (k : ℕ) (x : X) → slice_get xs k ≡ Some x → k < length xs
get_within [] k x e = absurd cc
get_within (y ∷ xs) zero x e = omega arith
get_within (y ∷ xs) (suc k) x e = let h = get_within xs k x e in omega (arith, h)

pub get_is : {X : Type 0} (xs : List X) (k : ℕ) → k < length xs → (x : X) × (slice_get xs k ≡ Some x)
get_is [] k low = absurd (omega arith)
get_is (y ∷ xs) zero low = (y, refl)
get_is (y ∷ xs) (suc k) low = get_is xs k (omega arith)

-- what a list contains is its first element or in the others
first_or_later : {X : Type 0} (y : X) (xs : List X) (x : X) (k : ℕ) → k < length (y ∷ xs) → get_or (y ∷ xs) k x ≡ x →
    (y ≡ x) ⊎ Contains xs x
first_or_later y xs x zero low is = inl is
first_or_later y xs x (suc k) low is = inr (k, omega arith, is)

pub contained : {X : Type 0} (y : X) (xs : List X) (x : X) → Contains (y ∷ xs) x → (y ≡ x) ⊎ Contains xs x
contained y xs x h = first_or_later y xs x h.0 h.1 h.2

pub contained_first : {X : Type 0} (y : X) (xs : List X) (x : X) → y ≡ x → Contains (y ∷ xs) x
contained_first y xs x e = (0, omega arith, e)

pub contained_later : {X : Type 0} (y : X) (xs : List X) (x : X) → Contains xs x → Contains (y ∷ xs) x
contained_later y xs x h = (suc h.0, let low = h.1 in omega (arith, low), h.2)

dropped : {X : Type 0} (xs : List X) (k n : ℕ) (x : X) → n ≡ suc k → slice_get xs k ≡ Some x → drop k xs ≡ x ∷ drop n xs
dropped [] k n x is e = absurd cc
dropped (y ∷ xs) zero n x is e = let h : y ≡ x = cc in (λ i. h i ∷ xs) ∙ ap (λ m. x ∷ drop m (y ∷ xs)) (sym is)
dropped (y ∷ xs) (suc k) n x is e = dropped xs k (suc k) x refl e ∙ ap (λ m. x ∷ drop m (y ∷ xs)) (sym is)

pub drop_at_get : {X : Type 0} (xs : List X) (k : ℕ) (x : X) → slice_get xs k ≡ Some x → drop k xs ≡ x ∷ drop (k + 1) xs
drop_at_get xs k x e = dropped xs k (k + 1) x (omega arith) e
