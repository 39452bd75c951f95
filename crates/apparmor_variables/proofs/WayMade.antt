-- What making a list changes.
use Rattle.std.proofs.Common.{◌≡◌, ◌≢◌, ℕ, zero, suc, ◌+◌, ◌<◌, ◌≤◌, List, [], ◌∷◌, length, take, set, Option, Some, None, refl, sym, ap}
use Rattle.std.proofs.Common.{◌∙◌, subst, ◌⊎◌, inl, inr, ⊎_elim, arith}
use Rattle.std.specs.Prelude.{slice_get, is_some, IsSome, option_and_then}
use Rattle.std.proofs.lemmas.Bool.{cases_eq}
use Rattle.apparmor_pieces.specs.Pieces.{Text}
use Rattle.apparmor_variables.specs.Variables.{Variable, Known, values_of, list_at, list_of_values, names_needed}
use Rattle.apparmor_variables.specs.Problems.{HasProblem, too_long, Long}
use Rattle.apparmor_variables.specs.inner.Known.{place_of, list_made, known_in}
use Rattle.apparmor_variables.specs.inner.Way.{Lists, KnowsAll, AreKnown, variable_at, needed_at, made_count, IsStep, names_of, Waits}
use Rattle.apparmor_variables.specs.inner.Way.{IsWay}
use Rattle.apparmor_variables.specs.declared.made_lists.Step.{Step}
use Rattle.apparmor_variables.proofs.Gets.{get_set_same, get_set_other, get_within}
use Rattle.apparmor_variables.proofs.KnownLists.{stands_at, more_listed, one_level, levels, are_listed, are_known_more, agree_known, alike}
use Rattle.apparmor_variables.proofs.KnownLists.{and_both}
use Rattle.apparmor_variables.proofs.WaySteps.{apart, lifted}

pub count_made : (lists : Lists) (place : ℕ) (list : List Text) → slice_get lists place ≡ Some None →
    made_count (set lists place (Some list)) ≡ suc (made_count lists)
count_made [] place list e = absurd cc
count_made (None ∷ lists) zero list e = refl
count_made (Some x ∷ lists) zero list e = absurd cc
count_made (None ∷ lists) (suc place) list e = count_made lists place list e
count_made (Some x ∷ lists) (suc place) list e = ap suc (count_made lists place list e)

pub count_few : (lists : Lists) → made_count lists ≤ length lists
count_few [] = omega arith
count_few (None ∷ lists) = let h = count_few lists in omega (arith, h)
count_few (Some x ∷ lists) = let h = count_few lists in omega (arith, h)

-- ---- what is known once the list at a place is made

module _ (lists : Lists) (place : ℕ) (made : List Text) (unmade : slice_get lists place ≡ Some None) where
  pub at_itself : list_made (set lists place (Some made)) place ≡ Some made
  at_itself = ap (option_and_then (λ (list : Option (List Text)). list))
      (get_set_same lists place (Some made) (get_within lists place None unmade))

  pub at_other : (other : ℕ) → other ≢ place → list_made (set lists place (Some made)) other ≡ list_made lists other
  at_other other apart = ap (option_and_then (λ (list : Option (List Text)). list)) (get_set_other lists place other (Some made) apart)

  none_at_itself : list_made lists place ≡ None
  none_at_itself = ap (option_and_then (λ (list : Option (List Text)). list)) unmade

  still_made : (o : Option ℕ) (list : List Text) → option_and_then (list_made lists) o ≡ Some list →
      option_and_then (list_made (set lists place (Some made))) o ≡ Some list
  still_made None list e = absurd cc
  still_made (Some other) list e =
      ⊎_elim (λ same. let no : list_made lists place ≡ Some list = ap (list_made lists) (sym same) ∙ e in let none = none_at_itself in
      absurd cc) (λ apart. at_other other apart ∙ e) (cases_eq other place)

  pub known_stays : (variables : List Variable) → KnowsAll (known_in variables lists) (known_in variables (set lists place (Some made)))
  known_stays variables name list e = still_made (place_of variables name) list e

  -- what is known now is the new list or was known
  new_or_old : (o : Option ℕ) (list : List Text) → option_and_then (list_made (set lists place (Some made))) o ≡ Some list
      → ((o ≡ Some place) × (made ≡ list)) ⊎ (option_and_then (list_made lists) o ≡ Some list)
  new_or_old None list e = absurd cc
  new_or_old (Some other) list e =
      ⊎_elim (λ same. let new : Some made ≡ Some list = sym (ap (list_made (set lists place (Some made))) same ∙ at_itself) ∙ e in
      inl (ap Some same, cc)) (λ apart. inr (sym (at_other other apart) ∙ e)) (cases_eq other place)

  this_list : (variables : List Variable) (n : ℕ) (name : Text) (list : List Text) → KnowsAll (known_in variables lists)
      (list_at n variables)
      → list_of_values (known_in variables lists) (variable_at variables place).values ≡ Some made
      → place_of variables name ≡ Some place → made ≡ list → list_at (suc n) variables name ≡ Some list
  unfolding list_at
  this_list variables n name list right is stands same =
      and_both (list_of_values (list_at n variables)) (values_of variables name) (variable_at variables place).values list
      (stands_at variables name place stands).valued (more_listed (known_in variables lists) (list_at n variables) right
      (variable_at variables place).values list (is ∙ ap Some same))

  -- the new list is the variable's
  pub right_still : (variables : List Variable) (n : ℕ) → KnowsAll (known_in variables lists) (list_at n variables)
      → list_of_values (known_in variables lists) (variable_at variables place).values ≡ Some made
      → KnowsAll (known_in variables (set lists place (Some made))) (list_at (suc n) variables)
  right_still variables n right is name list e =
      ⊎_elim (λ new. this_list variables n name list right is new.0 new.1) (λ old. one_level variables n name list (right name list old))
      (new_or_old (place_of variables name) list e)

  -- ---- those that wait still wait

  met_before : (met : List ℕ) (other n m : ℕ) → slice_get met place ≡ Some n → slice_get met other ≡ Some m → m < n → other ≢ place
  met_before met other n m at there low same =
      let both : Some m ≡ Some n = sym there ∙ ap (slice_get met) same ∙ at in
      let equal : m ≡ n = cc in
      omega arith

  pub step_stays : (variables : List Variable) (met : List ℕ) (n m : ℕ) (step : Step) → slice_get met place ≡ Some n → m < n
      → IsStep variables lists met m step → IsStep variables (set lists place (Some made)) met m step
  step_stays variables met n m step at low is = record {
    named = is.named;
    unmade = get_set_other lists place step.variable (Some made) (met_before met step.variable n m at is.met_at low) ∙ is.unmade;
    met_at = is.met_at;
    first_known = are_known_more (known_in variables lists) (known_in variables (set lists place (Some made))) (known_stays variables)
        (take step.next (needed_at variables step.variable)) is.first_known;
  }

  pub waits_still : (variables : List Variable) (met : List ℕ) (first : Text) (n : ℕ) → slice_get met place ≡ Some n →
      (steps : List Step) (name : Text) → length steps ≤ n
      → Waits variables lists met first steps name → Waits variables (set lists place (Some made)) met first steps name
  waits_still variables met first n at [] name deep waits = waits
  waits_still variables met first n at (step ∷ before) name deep waits = (
    step_stays variables met n (length before) step at (omega arith) waits.0,
    waits.1,
    waits_still variables met first n at before (variable_at variables step.variable).name (omega arith) waits.2,
  )

  -- the last step is taken off, since its list is made
  pub step_off : (variables : List Variable) (met : List ℕ) (first : Text) (before : List Step) → slice_get met place
      ≡ Some (length before)
      → place_of variables (variable_at variables place).name ≡ Some place
      → Waits variables lists met first before (variable_at variables place).name →
      IsWay variables (set lists place (Some made)) met first before
  step_off variables met first [] at stands waits =
      let known : known_in variables (set lists place (Some made)) (variable_at variables place).name ≡ Some made =
      ap (option_and_then (list_made (set lists place (Some made)))) stands ∙ at_itself in
      subst (λ (name : Text). IsSome (known_in variables (set lists place (Some made)) name)) waits (ap is_some known)
  step_off variables met first (step ∷ before) at stands waits = (
    step_stays variables met (suc (length before)) (length before) step at (omega arith) waits.0,
    waits_still variables met first (suc (length before)) at before (variable_at variables step.variable).name (omega arith) waits.2,
  )

-- ---- where no list can be made

pub no_list : (variables : List Variable) (known : Known) (c : ℕ) → KnowsAll known (list_at c variables) → (values : List Text) →
    AreKnown known (names_needed values) → list_of_values known values ≡ None
    → (n : ℕ) (o : Option (List Text)) → list_of_values (list_at n variables) values ≡ o → o ≡ None
no_list variables known c right values all none n None e = refl
no_list variables known c right values all none n (Some list) e =
    let more : list_of_values (list_at (c + n) variables) values ≡ Some list = more_listed (list_at n variables)
    (list_at (c + n) variables) (levels variables c n (c + n) refl) values list e in
    let same : list_of_values known values ≡ list_of_values (list_at (c + n) variables) values =
    alike known (list_at (c + n) variables) values
    (agree_known known (list_at (c + n) variables) (λ name l k. levels variables n c (c + n) (omega arith) name l (right name l k))
    (names_needed values) all) in
    absurd cc

pub too_long_first : (variables : List Variable) (lists : Lists) (met : List ℕ) (first : Text) (n : ℕ) →
    KnowsAll (known_in variables lists) (list_at n variables)
    → (before : List Step) (step : Step) → IsStep variables lists met (length before) step → Waits variables lists met first before
    (variable_at variables step.variable).name → AreKnown (known_in variables lists) (needed_at variables step.variable) →
    list_of_values (known_in variables lists) (variable_at variables step.variable).values ≡ None
    → HasProblem variables [] first too_long
too_long_first variables lists met first n right before step is waits all none =
    let here = (variable_at variables step.variable).name in
    let values = (variable_at variables step.variable).values in
    lifted variables lists met first n right before here too_long waits
    (Long (names_of variables before) here values (stands_at variables here step.variable is.named).valued
    (apart variables lists met first before here step.variable (length before) waits is.met_at (omega arith) here is.named)
    (are_listed variables (known_in variables lists) n right (names_needed values) all)
    (λ k. no_list variables (known_in variables lists) n right values all none k (list_of_values (list_at k variables) values) refl))
