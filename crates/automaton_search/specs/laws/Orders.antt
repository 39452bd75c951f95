-- The order of names: by length, and by the places of bytes where the lengths are equal.
use Rattle.std.proofs.Common.{◌≡◌, ◌⊎◌, inl, inr, ⊎_elim, ℕ, ◌+◌, ◌<◌, ◌≤◌, List, [], ◌∷◌, ◌++◌, length, refl, sym, ap, ◌∙◌, subst, arith}
use Rattle.std.proofs.lemmas.Bool.{cases_lt}
use Rattle.std.proofs.lemmas.List.{length-append}
use Rattle.automaton_search.specs.Order.{IsBefore, IsLess, IsAtMost, place_of}
use Rattle.automaton_search.specs.laws.Places.{one_place}

before_through : (u v w : List ℕ) → IsBefore u v → IsBefore v w → IsBefore u w
before_through [] v w h k = absurd h
before_through (a ∷ u) [] w h k = absurd h
before_through (a ∷ u) (b ∷ v) [] h k = absurd k
before_through (a ∷ u) (b ∷ v) (c ∷ w) (inl h) (inl k) = inl (omega (arith, h, k))
before_through (a ∷ u) (b ∷ v) (c ∷ w) (inl h) (inr k) = inl (subst (λ z. place_of a < place_of z) k.0 h)
before_through (a ∷ u) (b ∷ v) (c ∷ w) (inr h) (inl k) = inl (omega (arith, ap place_of h.0, k))
before_through (a ∷ u) (b ∷ v) (c ∷ w) (inr h) (inr k) = inr (h.0 ∙ k.0, before_through u v w h.1 k.1)

before_stays : (u v s t : List ℕ) → IsBefore u v → IsBefore (u ++ s) (v ++ t)
before_stays [] v s t h = absurd h
before_stays (a ∷ u) [] s t h = absurd h
before_stays (a ∷ u) (b ∷ v) s t (inl h) = inl h
before_stays (a ∷ u) (b ∷ v) s t (inr h) = inr (h.0, before_stays u v s t h.1)

before_last : (u : List ℕ) (x y : ℕ) → place_of x < place_of y → IsBefore (u ++ x ∷ []) (u ++ y ∷ [])
before_last [] x y lt = inl lt
before_last (a ∷ u) x y lt = inr (refl, before_last u x y lt)

one_longer : (u : List ℕ) (x : ℕ) → length (u ++ x ∷ []) ≡ length u + 1
one_longer u x = length-append u (x ∷ [])

pub less_through : (u v w : List ℕ) → IsLess u v → IsLess v w → IsLess u w
less_through u v w (inl h) (inl k) = inl (omega (arith, h, k))
less_through u v w (inl h) (inr k) = inl (omega (arith, h, k.0))
less_through u v w (inr h) (inl k) = inl (omega (arith, h.0, k))
less_through u v w (inr h) (inr k) = inr (h.0 ∙ k.0, before_through u v w h.1 k.1)

-- whatever bytes are appended
pub less_with : (u v : List ℕ) (x y : ℕ) → IsLess u v → IsLess (u ++ x ∷ []) (v ++ y ∷ [])
less_with u v x y (inl h) = inl (omega (arith, h, one_longer u x, one_longer v y))
less_with u v x y (inr h) = inr (omega (arith, h.0, one_longer u x, one_longer v y), before_stays u v (x ∷ []) (y ∷ []) h.1)

pub less_by_last : (u : List ℕ) (x y : ℕ) → place_of x < place_of y → IsLess (u ++ x ∷ []) (u ++ y ∷ [])
less_by_last u x y lt = inr (one_longer u x ∙ sym (one_longer u y), before_last u x y lt)

pub less_than_more : (u : List ℕ) (x : ℕ) → IsLess u (u ++ x ∷ [])
less_than_more u x = inl (omega (arith, one_longer u x))

pub at_most_through : (u v w : List ℕ) → IsAtMost u v → IsAtMost v w → IsAtMost u w
at_most_through u v w (inl e) k = subst (λ z. IsAtMost z w) (sym e) k
at_most_through u v w (inr h) (inl e) = inr (subst (IsLess u) e h)
at_most_through u v w (inr h) (inr k) = inr (less_through u v w h k)

pub at_most_with : (u v : List ℕ) (x : ℕ) → IsAtMost u v → IsAtMost (u ++ x ∷ []) (v ++ x ∷ [])
at_most_with u v x (inl e) = inl (ap (λ z. z ++ x ∷ []) e)
at_most_with u v x (inr h) = inr (less_with u v x x h)

pub at_most_by_last : (u : List ℕ) (x y : ℕ) → place_of x ≤ place_of y → IsAtMost (u ++ x ∷ []) (u ++ y ∷ [])
at_most_by_last u x y le = ⊎_elim
    (λ lt. inr (less_by_last u x y lt))
    (λ ge. let e : x ≡ y = one_place x y (omega (arith, le, ge)) in inl (ap (λ z. u ++ z ∷ []) e))
    (cases_lt (place_of x) (place_of y))

never_before : (u : List ℕ) → IsBefore u u → ⊥
never_before [] h = h
never_before (a ∷ u) (inl h) = omega (arith, h)
never_before (a ∷ u) (inr h) = never_before u h.1

pub never_less : (u : List ℕ) → IsLess u u → ⊥
never_less u (inl h) = omega (arith, h)
never_less u (inr h) = never_before u h.1

one_before : (u v : List ℕ) → length u ≡ length v → (u ≡ v) ⊎ (IsBefore u v ⊎ IsBefore v u)
one_before [] [] long = inl refl
one_before [] (b ∷ v) long = absurd (omega (arith, long))
one_before (a ∷ u) [] long = absurd (omega (arith, long))
one_before (a ∷ u) (b ∷ v) long = ⊎_elim
    (λ lt. inr (inl (inl lt)))
    (λ le. ⊎_elim
    (λ gt. inr (inr (inl gt)))
    (λ ge.
    let e : a ≡ b = one_place a b (omega (arith, le, ge)) in
    ⊎_elim
    (λ same. inl (ap (λ z. z ∷ u) e ∙ ap (λ z. b ∷ z) same))
    (λ h. inr (⊎_elim (λ g. inl (inr (e, g))) (λ g. inr (inr (sym e, g))) h))
    (one_before u v (omega (arith, long))))
    (cases_lt (place_of b) (place_of a)))
    (cases_lt (place_of a) (place_of b))

pub less_or_same : (u v : List ℕ) → (u ≡ v) ⊎ (IsLess u v ⊎ IsLess v u)
less_or_same u v = ⊎_elim
    (λ lt. inr (inl (inl lt)))
    (λ le. ⊎_elim
    (λ gt. inr (inr (inl gt)))
    (λ ge.
    let e : length u ≡ length v = omega (arith, le, ge) in
    ⊎_elim
    (λ same. inl same)
    (λ h. inr (⊎_elim (λ g. inl (inr (e, g))) (λ g. inr (inr (sym e, g))) h))
    (one_before u v e))
    (cases_lt (length v) (length u)))
    (cases_lt (length u) (length v))
