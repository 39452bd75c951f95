-- Lists of least names: what they begin with, and that there is one.
use Rattle.std.proofs.Common.{◌≡◌, ◌⊎◌, inl, inr, ⊎_elim, ℕ, zero, suc, List, [], ◌∷◌, Some, None, slice_get, take}
use Rattle.std.proofs.Common.{refl, sym, ap, ◌∙◌, subst, arith}
use Rattle.std.proofs.lemmas.Option.{none-some, same_Some}
use Rattle.automaton_search.specs.Order.{IsAtMost, IsLess}
use Rattle.question_answers.specs.LeastNames.{AreLeast, AreLeastNames, IsListed}
use Rattle.question_answers.proofs.Passes.{Ascending}

abbrev pub Irreflexive : Type 0
Irreflexive = (u : List ℕ) → ¬ (IsLess u u)

abbrev pub Transitive : Type 0
Transitive = (u v w : List ℕ) → IsLess u v → IsLess v w → IsLess u w

-- the rest of a list
listed_later : (x : List ℕ) (xs : List (List ℕ)) (name : List ℕ) → IsListed xs name → IsListed (x ∷ xs) name
listed_later x xs name at = (suc at.0, at.1)

rest_ascends : (x : List ℕ) (xs : List (List ℕ)) → Ascending (x ∷ xs) → Ascending xs
rest_ascends x xs up i j name other lt one two = up (suc i) (suc j) name other (omega (arith, lt)) one two

-- what is in the list is its first name, or it is greater and in the rest
first_or_rest : (x : List ℕ) (xs : List (List ℕ)) → Ascending (x ∷ xs) → (i : ℕ) (name : List ℕ) → slice_get (x ∷ xs) i ≡ Some name →
    (name ≡ x) ⊎ (IsLess x name × IsListed xs name)
first_or_rest x xs up zero name at = inl (sym (same_Some x name at))
first_or_rest x xs up (suc i) name at = inr (up 0 (suc i) x name (omega arith) refl at, (i, at))

module _ (irreflexive : Irreflexive) (transitive : Transitive) where
  the_same : (u v : List ℕ) → IsAtMost u v → IsAtMost v u → u ≡ v
  the_same u v (inl e) back = e
  the_same u v (inr less) (inl e) = sym e
  the_same u v (inr less) (inr greater) = absurd (irreflexive u (transitive u v u less greater))

  through : (u v w : List ℕ) → IsLess u v → IsAtMost v w → IsAtMost u w
  through u v w less (inl e) = inr (subst (IsLess u) e less)
  through u v w less (inr more) = inr (transitive u v w less more)

  -- the list begins with the least name of all
  module _ {K : Type 0} (Has : K → List ℕ → Type 0) (Wanted : List ℕ → Type 0)
      (keyed : (name : List ℕ) → Wanted name → (k : K) × Has k name) (wanted : (k : K) (name : List ℕ) → Has k name → Wanted name) where
    pub first_is_least : (names : List (List ℕ)) → AreLeastNames Has names → AreLeast Wanted (take 1 names)
    first_is_least [] are = (
      None,
      λ name w.
          let by = keyed name w in
          none-some (are.all by.0 name by.1).0 (are.all by.0 name by.1).1.1,
      refl,
    )
    first_is_least (x ∷ xs) are =
        let is = are.each x (0, refl) in (
          Some x,
          (
            wanted is.0 x is.1.0,
            λ other w.
                let by = keyed other w in
                let least = are.all by.0 other by.1 in
                ⊎_elim
                (λ e. subst (λ (z : List ℕ). IsAtMost z other) e (least.2.1 other by.1))
                (λ more. through x least.0 other more.0 (least.2.1 other by.1))
                (first_or_rest x xs are.ascending least.1.0 least.0 least.1.1),
          ),
          refl,
        )

  -- two lists in ascending order with the same names are one
  abbrev Includes : List (List ℕ) → List (List ℕ) → Type 0
  Includes xs ys = (name : List ℕ) → IsListed xs name → IsListed ys name

  same_first : (x y : List ℕ) (xs ys : List (List ℕ)) → Ascending (x ∷ xs) → Ascending (y ∷ ys) → Includes (x ∷ xs) (y ∷ ys) →
      Includes (y ∷ ys) (x ∷ xs) → x ≡ y
  same_first x y xs ys up also there back =
      let one = there x (0, refl) in
      let other = back y (0, refl) in
      ⊎_elim
      (λ e. e)
      (λ more. ⊎_elim
      (λ e. sym e)
      (λ less. absurd (irreflexive x (transitive x y x less.0 more.0)))
      (first_or_rest x xs up other.0 y other.1))
      (first_or_rest y ys also one.0 x one.1)

  rest_included : (x y : List ℕ) (xs ys : List (List ℕ)) → Ascending (x ∷ xs) → Ascending (y ∷ ys) → Includes (x ∷ xs) (y ∷ ys) →
      x ≡ y → Includes xs ys
  rest_included x y xs ys up also there e name listed =
      let at = there name (listed_later x xs name listed) in
      ⊎_elim
      (λ same. absurd (irreflexive x (up 0 (suc listed.0) x x (omega arith) refl (listed.1 ∙ ap Some (same ∙ sym e)))))
      (λ more. more.1)
      (first_or_rest y ys also at.0 name at.1)

  one_ascending : (xs ys : List (List ℕ)) → Ascending xs → Ascending ys → Includes xs ys → Includes ys xs → xs ≡ ys
  one_ascending [] [] up also there back = refl
  one_ascending [] (y ∷ ys) up also there back = absurd (none-some y (back y (0, refl)).1)
  one_ascending (x ∷ xs) [] up also there back = absurd (none-some x (there x (0, refl)).1)
  one_ascending (x ∷ xs) (y ∷ ys) up also there back =
      let e = same_first x y xs ys up also there back in
      let rest = one_ascending xs ys (rest_ascends x xs up) (rest_ascends y ys also) (rest_included x y xs ys up also there e)
      (rest_included y x ys xs also up back (sym e)) in
      ap (λ (z : List ℕ). z ∷ xs) e ∙ ap (λ (zs : List (List ℕ)). y ∷ zs) rest

  module _ {K : Type 0} (Has : K → List ℕ → Type 0) where
    included : (xs ys : List (List ℕ)) → AreLeastNames Has xs → AreLeastNames Has ys → Includes xs ys
    included xs ys are also name listed =
        let is = are.each name listed in
        let other = also.all is.0 name is.1.0 in
        subst (IsListed ys) (the_same other.0 name (other.2.1 name is.1.0) (is.1.1 other.0 other.2.0)) other.1

    pub one_list : (xs ys : List (List ℕ)) → AreLeastNames Has xs → AreLeastNames Has ys → xs ≡ ys
    one_list xs ys are also = one_ascending xs ys are.ascending also.ascending (included xs ys are also) (included ys xs also are)
