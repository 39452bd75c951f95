-- Elements of a list, of what is made of each, and of the lists that are made of each.
use Rattle.std.proofs.Common.{◌≡◌, ◌⊎◌, inl, inr, ⊎_elim, List, [], ◌∷◌, map, sym, subst, arith}
use Rattle.std.specs.List.{Any, Contains, flat_map}
use Rattle.std.proofs.lemmas.List.Elements.{Contains-append_left, Contains-append_right, Contains-append_cases, Contains-push}
use Rattle.std.proofs.lemmas.List.Elements.{Contains-push_cases}

module _ {X : Type 0} where
  pub some_from : (P : X → Type 0) (xs : List X) (x : X) → Contains xs x → P x → Any P xs
  some_from P xs x here holds = (here.0, x, here.1, here.2, holds)

  none_in_nothing : (x : X) → Contains [] x → ⊥
  none_in_nothing x here = absurd (omega (arith, here.1))

  first_in : (x : X) (xs : List X) → Contains (x ∷ xs) x
  first_in x xs = Contains-append_left (x ∷ []) xs x (Contains-push [] x)

  others_in : (x : X) (xs : List X) (y : X) → Contains xs y → Contains (x ∷ xs) y
  others_in x xs y = Contains-append_right (x ∷ []) xs y

  first_or_other : (x : X) (xs : List X) (y : X) → Contains (x ∷ xs) y → (x ≡ y) ⊎ Contains xs y
  first_or_other x xs y here = ⊎_elim
      (λ h. ⊎_elim (λ none. absurd (none_in_nothing y none)) (λ e. inl e) (Contains-push_cases [] x y h))
      (λ h. inr h)
      (Contains-append_cases (x ∷ []) xs y here)

module _ {X Y : Type 0} where
  pub made_of_some : (f : X → Y) (xs : List X) (y : Y) → Contains (map f xs) y → (x : X) × Contains xs x × (f x ≡ y)
  made_of_some f [] y here = absurd (none_in_nothing y here)
  made_of_some f (x ∷ xs) y here = ⊎_elim
      (λ e. (x, first_in x xs, e))
      (λ h. let other = made_of_some f xs y h in (other.0, others_in x xs other.0 other.1, other.2))
      (first_or_other (f x) (map f xs) y here)

  pub some_made : (f : X → Y) (xs : List X) (x : X) → Contains xs x → Contains (map f xs) (f x)
  some_made f [] x here = absurd (none_in_nothing x here)
  some_made f (z ∷ xs) x here = ⊎_elim
      (λ e. subst (λ w. Contains (f z ∷ map f xs) (f w)) e (first_in (f z) (map f xs)))
      (λ h. others_in (f z) (map f xs) (f x) (some_made f xs x h))
      (first_or_other z xs x here)

  pub in_list_of_some : (f : X → List Y) (xs : List X) (y : Y) → Contains (flat_map f xs) y → (x : X) × Contains xs x × Contains (f x) y
  in_list_of_some f [] y here = absurd (none_in_nothing y here)
  in_list_of_some f (x ∷ xs) y here = ⊎_elim
      (λ h. (x, first_in x xs, h))
      (λ h. let other = in_list_of_some f xs y h in (other.0, others_in x xs other.0 other.1, other.2))
      (Contains-append_cases (f x) (flat_map f xs) y here)

  pub in_all_lists : (f : X → List Y) (xs : List X) (x : X) (y : Y) → Contains xs x → Contains (f x) y → Contains (flat_map f xs) y
  in_all_lists f [] x y here in_list = absurd (none_in_nothing x here)
  in_all_lists f (z ∷ xs) x y here in_list = ⊎_elim
      (λ e. Contains-append_left (f z) (flat_map f xs) y (subst (λ w. Contains (f w) y) (sym e) in_list))
      (λ h. Contains-append_right (f z) (flat_map f xs) y (in_all_lists f xs x y h in_list))
      (first_or_other z xs x here)

pub nothing_in : {X : Type 0} (x : X) → Contains [] x → ⊥
nothing_in x here = none_in_nothing x here
