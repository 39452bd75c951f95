-- One pass over names in ascending order, which keeps those that are the first with some key.
use Rattle.std.proofs.Common.{◌≡◌, ◌⊎◌, ◌↔◌, inl, inr, ⊎_elim, ℕ, ◌+◌, ◌<◌, ◌≤◌, List, [], ◌∷◌, ◌++◌, length, Some, slice_get}
use Rattle.std.proofs.Common.{sym, ap, ◌∙◌, subst, arith}
use Rattle.std.proofs.lemmas.Bool.{cases_lt}
use Rattle.std.proofs.lemmas.Option.{none-some, same_Some, slice_get_within}
use Rattle.automaton_search.specs.Order.{IsAtMost, IsLess}
use Rattle.automaton_search.specs.laws.Lists.{get_either, get_last, get_stays}
use Rattle.automaton_search.specs.laws.Orders.{at_most_through}
use Rattle.question_answers.specs.Below.{IsLeastName}
use Rattle.question_answers.specs.LeastNames.{AreLeastNames, IsListed}

abbrev pub Ascending : List (List ℕ) → Type 0
Ascending names = (i j : ℕ) (name other : List ℕ) → i < j → slice_get names i ≡ Some name → slice_get names j ≡ Some other →
    IsLess name other

-- one of the first names, which has the key
abbrev pub Within : {K : Type 0} → (K → List ℕ → Type 0) → List (List ℕ) → ℕ → K → List ℕ → Type 0
Within {K} Has reps count k name = (j : ℕ) × (j < count) × (slice_get reps j ≡ Some name) × Has k name

-- whether one of the first names has the key
abbrev pub IsKnown : {K : Type 0} → (K → List ℕ → Type 0) → List (List ℕ) → ℕ → K → Type 0
IsKnown {K} Has reps count k = ((name : List ℕ) × Within Has reps count k name) ⊎ ((name : List ℕ) → ¬ (Within Has reps count k name))

module _ {K : Type 0} (Has : K → List ℕ → Type 0) (reps : List (List ℕ)) where
  pub none_within : AreLeastNames (Within Has reps 0) []
  none_within = record {
    ascending = λ i j name other lt at there. absurd (none-some name at);
    each = λ name listed. absurd (none-some name listed.1);
    all = λ k name has. absurd (omega (arith, has.1));
  }

  module _ (ascending : Ascending reps) (count : ℕ) (here : List ℕ) (at : slice_get reps count ≡ Some here) where
    pub later : (k : K) (name : List ℕ) → Within Has reps count k name → Within Has reps (count + 1) k name
    later k name w = (w.0, omega (arith, w.1), w.2, w.3)

    pub last : (k : K) → Has k here → Within Has reps (count + 1) k here
    last k has = (count, omega arith, at, has)

    -- a name with a key is one of those before, or the next one
    pub split : (k : K) (name : List ℕ) → Within Has reps (count + 1) k name →
        Within Has reps count k name ⊎ ((name ≡ here) × Has k here)
    split k name w = ⊎_elim
        (λ lt. inl (w.0, lt, w.2, w.3))
        (λ le.
        let e : w.0 ≡ count = omega (arith, le, w.1) in
        let same : name ≡ here = same_Some name here (sym w.2 ∙ ap (slice_get reps) e ∙ at) in
        inr (same, subst (Has k) same w.3))
        (cases_lt w.0 count)

    below_here : (k : K) (name : List ℕ) → Within Has reps count k name → IsLess name here
    below_here k name w = ascending w.0 count name here w.1 w.2 at

    kept : (k : K) (name : List ℕ) → IsLeastName (Within Has reps count k) (Some name) →
        IsLeastName (Within Has reps (count + 1) k) (Some name)
    kept k name h = (
      later k name h.0,
      λ other w. ⊎_elim
          (λ earlier. h.1 other earlier)
          (λ next. inr (subst (IsLess name) (sym next.0) (below_here k name h.0)))
          (split k other w),
    )

    module _ (names : List (List ℕ)) (so_far : AreLeastNames (Within Has reps count) names) where
      -- each key of the next name was met before
      pub nothing_new : ((k : K) → Has k here → (name : List ℕ) × Within Has reps count k name) →
          AreLeastNames (Within Has reps (count + 1)) names
      nothing_new old = record {
        ascending = so_far.ascending;
        each = λ name listed. let is = so_far.each name listed in (is.0, kept is.0 name is.1);
        all = λ k name w.
            let earlier : (one : List ℕ) × Within Has reps count k one =
            ⊎_elim (λ e. (name, e)) (λ next. old k next.1) (split k name w) in
            let least = so_far.all k earlier.0 earlier.1 in (least.0, least.1, kept k least.0 least.2);
      }

      module _ (known : (k : K) → IsKnown Has reps count k) (new : K) (has : Has new here)
          (fresh : (name : List ℕ) → ¬ (Within Has reps count new name)) where
        first_here : (k : K) → Has k here → ((name : List ℕ) → ¬ (Within Has reps count k name)) →
            IsLeastName (Within Has reps (count + 1) k) (Some here)
        first_here k h none = (
          last k h,
          λ other w. ⊎_elim (λ earlier. absurd (none other earlier)) (λ next. inl (sym next.0)) (split k other w),
        )

        before : (name : List ℕ) → IsListed names name → IsListed (names ++ here ∷ []) name
        before name listed = (listed.0, get_stays names (here ∷ []) listed.0 name listed.1)

        still : (k : K) (name : List ℕ) → Within Has reps count k name → (least : List ℕ) × IsListed (names ++ here ∷ []) least
            × IsLeastName (Within Has reps (count + 1) k) (Some least)
        still k name w = let least = so_far.all k name w in (least.0, before least.0 least.1, kept k least.0 least.2)

        ascends : Ascending (names ++ here ∷ [])
        ascends i j name other lt one two = ⊎_elim
            (λ inner. ⊎_elim
            (λ start. so_far.ascending i j name other lt start inner)
            (λ end. absurd (omega (arith, lt, end.0, slice_get_within names j other inner)))
            (get_either names here name i one))
            (λ end. ⊎_elim
            (λ start.
            let is = so_far.each name (i, start) in
            subst (IsLess name) end.1 (below_here is.0 name is.1.0))
            (λ also. absurd (omega (arith, lt, end.0, also.0)))
            (get_either names here name i one))
            (get_either names here other j two)

        pub one_new : AreLeastNames (Within Has reps (count + 1)) (names ++ here ∷ [])
        one_new = record {
          ascending = ascends;
          each = λ name listed. ⊎_elim
              (λ inner. let is = so_far.each name (listed.0, inner) in (is.0, kept is.0 name is.1))
              (λ end. (
                new,
                subst (λ (z : List ℕ). IsLeastName (Within Has reps (count + 1) new) (Some z)) end.1 (first_here new has fresh),
              ))
              (get_either names here name listed.0 listed.1);
          all = λ k name w. ⊎_elim
              (λ earlier. still k name earlier)
              (λ next. ⊎_elim
              (λ one. still k one.0 one.1)
              (λ none. (here, (length names, get_last names here), first_here k next.1 none))
              (known k))
              (split k name w);
        }

  -- all have been passed, and each name is represented by one that has its keys
  module _ (spread : (k : K) (name : List ℕ) → Has k name →
      (i : ℕ) × (least : List ℕ) × (slice_get reps i ≡ Some least) × IsAtMost least name × Has k least)
      (count : ℕ) (past : length reps ≤ count) where
    met : (k : K) (i : ℕ) (name : List ℕ) → slice_get reps i ≡ Some name → Has k name → Within Has reps count k name
    met k i name at has = (i, omega (arith, slice_get_within reps i name at, past), at, has)

    least_of_all : (k : K) (name : List ℕ) → IsLeastName (Within Has reps count k) (Some name) → IsLeastName (Has k) (Some name)
    least_of_all k name h = (
      h.0.3,
      λ other has.
          let by = spread k other has in
          at_most_through name by.1 other (h.1 by.1 (met k by.0 by.1 by.2 by.4)) by.3,
    )

    pub all_passed : (names : List (List ℕ)) → AreLeastNames (Within Has reps count) names → AreLeastNames Has names
    all_passed names are = record {
      ascending = are.ascending;
      each = λ name listed. let is = are.each name listed in (is.0, least_of_all is.0 name is.1);
      all = λ k name has.
          let by = spread k name has in
          let least = are.all k by.1 (met k by.0 by.1 by.2 by.4) in (least.0, least.1, least_of_all k least.0 least.2);
    }

-- the same names with other keys
module _ {K L : Type 0} (Has : K → List ℕ → Type 0) (Other : L → List ℕ → Type 0) where
  renamed : (k : K) (l : L) (name : List ℕ) → ((one : List ℕ) → Has k one ↔ Other l one) → IsLeastName (Has k) (Some name) →
      IsLeastName (Other l) (Some name)
  renamed k l name same h = ((same name).0 h.0, λ other o. h.1 other ((same other).1 o))

  pub same_names : ((k : K) (name : List ℕ) → Has k name → (l : L) × ((one : List ℕ) → Has k one ↔ Other l one)) →
      ((l : L) (name : List ℕ) → Other l name → (k : K) × ((one : List ℕ) → Has k one ↔ Other l one)) →
      (names : List (List ℕ)) → AreLeastNames Has names → AreLeastNames Other names
  same_names to from names are = record {
    ascending = are.ascending;
    each = λ name listed.
        let is = are.each name listed in
        let by = to is.0 name is.1.0 in (by.0, renamed is.0 by.0 name by.1 is.1);
    all = λ l name has.
        let by = from l name has in
        let least = are.all by.0 name ((by.1 name).1 has) in (least.0, least.1, renamed by.0 l least.0 by.1 least.2);
  }
