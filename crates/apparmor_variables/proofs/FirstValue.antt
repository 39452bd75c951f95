-- Another value for the first variable: what stays, and what doesn't depend on it.
use Rattle.std.proofs.Common.{◌≡◌, ◌≢◌, ℕ, zero, suc, ◌<◌, Bool, true, false, List, [], ◌∷◌, ◌++◌, length, set, Option, Some, None, refl}
use Rattle.std.proofs.Common.{sym, ap, ◌∙◌, subst, ⊎_elim, arith}
use Rattle.std.specs.Prelude.{◌||◌, is_some, IsSome, if◌then◌else◌, slice_get, option_and_then, unwrap_or, Contains}
use Rattle.std.specs.List.{list_any}
use Rattle.std.specs.Option.{option_map_or}
use Rattle.std.proofs.lemmas.Bool.{cases_eq}
use Rattle.std.proofs.lemmas.List.Elements.{Contains-append_left, Contains-append_right, Contains-append_cases}
use Rattle.apparmor_pieces.specs.Pieces.{Text}
use Rattle.apparmor_variables.specs.Variables.{Variable, values_of, list_at, list_of_values, names_needed, with_first_value}
use Rattle.apparmor_variables.specs.inner.Known.{place_of, list_made, known_in, is_marked, free_at, free_in, is_named_marked}
use Rattle.apparmor_variables.specs.inner.Way.{Lists, KnowsAll, AreKnown, IsFree, variable_at, needed_at}
use Rattle.apparmor_variables.proofs.Gets.{get_set_same, get_set_other, contained, contained_first}
use Rattle.apparmor_variables.proofs.KnownLists.{stands_at, more_listed, one_level, agree_known, alike, and_both}
use Rattle.apparmor_variables.proofs.WayMade.{at_itself, at_other}

-- ---- the variables

pub same_length : (variables : List Variable) (value : Text) → length (with_first_value variables value) ≡ length variables
same_length [] value = refl
same_length (v ∷ variables) value = refl

pub same_place : (variables : List Variable) (value name : Text) → place_of (with_first_value variables value) name
    ≡ place_of variables name
same_place [] value name = refl
same_place (v ∷ variables) value name = refl

pub set_twice : (variables : List Variable) (value other : Text) → with_first_value (with_first_value variables value) other
    ≡ with_first_value variables other
set_twice [] value other = refl
set_twice (v ∷ variables) value other = refl

same_variable : (variables : List Variable) (value : Text) (place : ℕ) → place ≢ 0 → variable_at (with_first_value variables value) place
    ≡ variable_at variables place
same_variable [] value place apart = refl
same_variable (v ∷ variables) value zero apart = absurd (apart refl)
same_variable (v ∷ variables) value (suc place) apart = refl

-- what is known, and what is free, depends on the names alone
pub known_is : (variables : List Variable) (lists : Lists) (value name : Text) → known_in (with_first_value variables value) lists name
    ≡ known_in variables lists name
known_is variables lists value name = ap (option_and_then (list_made lists)) (same_place variables value name)

pub free_is : (variables : List Variable) (lists : Lists) (marks : List Bool) (value name : Text) →
    free_in (with_first_value variables value) lists marks name ≡ free_in variables lists marks name
free_is variables lists marks value name = ap (option_and_then (free_at lists marks)) (same_place variables value name)

-- ---- lists that are free of the first variable

module _ (lists : Lists) (marks : List Bool) where
  -- what is free is made, at a place that isn't marked
  pub free_parts : (place : ℕ) (list : List Text) → free_at lists marks place ≡ Some list → (is_marked marks place ≡ false)
      × (list_made lists place ≡ Some list)
  free_parts place list e =
      elim (is_marked marks place) as (λ b. (if b then None else list_made lists place) ≡ Some list →
      (b ≡ false) × (list_made lists place ≡ Some list)) [
        | true ↦ λ h. absurd cc
        | false ↦ λ h. (refl, h)
      ] e

  pub free_again : (place : ℕ) → is_marked marks place ≡ false → free_at lists marks place ≡ list_made lists place
  free_again place e = ap (λ (b : Bool). if b then None else list_made lists place) e

  made_too : (o : Option ℕ) (list : List Text) → option_and_then (free_at lists marks) o ≡ Some list →
      option_and_then (list_made lists) o ≡ Some list
  made_too None list e = absurd cc
  made_too (Some place) list e = (free_parts place list e).1

  free_known : (variables : List Variable) → KnowsAll (free_in variables lists marks) (known_in variables lists)
  free_known variables name list e = made_too (place_of variables name) list e

  free_too : (o : Option ℕ) → option_map_or (is_marked marks) o false ≡ false → IsSome (option_and_then (list_made lists) o) →
      IsSome (option_and_then (free_at lists marks) o)
  free_too None e h = h
  free_too (Some place) e h = ap is_some (free_again place e) ∙ h

  neither : (a b : Bool) → (a || b) ≡ false → (a ≡ false) × (b ≡ false)
  neither true b e = absurd cc
  neither false b e = (refl, e)

  all_free : (variables : List Variable) (names : List Text) → list_any (is_named_marked variables marks) names ≡ false →
      AreKnown (known_in variables lists) names → AreKnown (free_in variables lists marks) names
  all_free variables [] e h = tt
  all_free variables (name ∷ names) e h =
      let both = neither (is_named_marked variables marks name) (list_any (is_named_marked variables marks) names) e in
      (free_too (place_of variables name) both.0 h.0, all_free variables names both.1 h.1)

  -- a list all of whose needs are free is made from those alone
  free_list : (variables : List Variable) (values list : List Text) → list_any (is_named_marked variables marks) (names_needed values)
      ≡ false → AreKnown (known_in variables lists) (names_needed values)
      → list_of_values (known_in variables lists) values ≡ Some list → list_of_values (free_in variables lists marks) values ≡ Some list
  free_list variables values list none all e =
      alike (free_in variables lists marks) (known_in variables lists) values
      (agree_known (free_in variables lists marks) (known_in variables lists) (free_known variables) (names_needed values)
      (all_free variables (names_needed values) none all)) ∙ e

-- ---- the list at a place is made

module _ (lists : Lists) (marks : List Bool) (place : ℕ) (made : List Text) (unmade : slice_get lists place ≡ Some None)
    (variables : List Variable) (n : ℕ) (value : Text)
    (right : KnowsAll (free_in variables lists marks) (list_at n (with_first_value variables value)))
    (marked : is_marked marks place ≡ false → IsFree variables marks place)
    (all : AreKnown (known_in variables lists) (needed_at variables place))
    (is : list_of_values (known_in variables lists) (variable_at variables place).values ≡ Some made) where
  this_free : (name : Text) (list : List Text) → place_of variables name ≡ Some place → is_marked marks place ≡ false → made ≡ list →
      list_at (suc n) (with_first_value variables value) name ≡ Some list
  unfolding list_at
  this_free name list stands unmarked same =
      let changed = with_first_value variables value in
      let values = (variable_at variables place).values in
      let free = marked unmarked in
      and_both (list_of_values (list_at n changed)) (values_of changed name) values list
      ((stands_at changed name place (same_place variables value name ∙ stands)).valued ∙ ap (λ (v : Variable). Some v.values)
      (same_variable variables value place free.0))
      (more_listed (free_in variables lists marks) (list_at n changed) right values list
      (free_list lists marks variables values made free.1 all is ∙ ap Some same))

  free_at_place : (name : Text) (list : List Text) (o : Option ℕ) → place_of variables name ≡ o →
      option_and_then (free_at (set lists place (Some made)) marks) o ≡ Some list
      → list_at (suc n) (with_first_value variables value) name ≡ Some list
  free_at_place name list None stands e = absurd cc
  free_at_place name list (Some other) stands e =
      let parts = free_parts (set lists place (Some made)) marks other list e in
      ⊎_elim
      (λ same.
      let new : Some made ≡ Some list = sym (ap (list_made (set lists place (Some made))) same ∙ at_itself lists place made unmade)
      ∙ parts.1 in
      this_free name list (stands ∙ ap Some same) (sym (ap (is_marked marks) same) ∙ parts.0) cc)
      (λ apart.
      one_level (with_first_value variables value) n name list
      (right name list (ap (option_and_then (free_at lists marks)) stands ∙ free_again lists marks other parts.0
      ∙ sym (at_other lists place made unmade other apart) ∙ parts.1)))
      (cases_eq other place)

  pub free_still : KnowsAll (free_in variables (set lists place (Some made)) marks) (list_at (suc n) (with_first_value variables value))
  free_still name list e = free_at_place name list (place_of variables name) refl e

-- ---- a list is forgotten

module _ (lists : Lists) (marks : List Bool) (place : ℕ) (within : place < length lists) (marked : place < length marks) where
  none_at_itself : list_made (set lists place None) place ≡ None
  none_at_itself = ap (option_and_then (λ (list : Option (List Text)). list)) (get_set_same lists place None within)

  unmarked_itself : is_marked (set marks place false) place ≡ false
  unmarked_itself = ap (λ (o : Option Bool). unwrap_or o false) (get_set_same marks place false marked)

  pub marked_before : (other : ℕ) → is_marked (set marks place false) other ≡ true → (other ≢ place) × (is_marked marks other ≡ true)
  marked_before other e =
      let apart : other ≢ place = λ same. let no : false ≡ true = sym unmarked_itself ∙ ap (is_marked (set marks place false)) (sym same)
      ∙ e in absurd cc in
      (apart, sym (ap (λ (o : Option Bool). unwrap_or o false) (get_set_other marks place other false apart)) ∙ e)

  made_before : (other : ℕ) (list : List Text) → list_made (set lists place None) other ≡ Some list → (other ≢ place)
      × (list_made lists other ≡ Some list)
  made_before other list e =
      let apart : other ≢ place = λ same. let no : None ≡ Some list = sym none_at_itself ∙ ap (list_made (set lists place None)) (sym same)
      ∙ e in absurd cc in
      (apart, sym (ap (option_and_then (λ (list : Option (List Text)). list)) (get_set_other lists place other None apart)) ∙ e)

  known_before : (o : Option ℕ) (list : List Text) → option_and_then (list_made (set lists place None)) o ≡ Some list →
      option_and_then (list_made lists) o ≡ Some list
  known_before None list e = absurd cc
  known_before (Some other) list e = (made_before other list e).1

  pub fewer_known : (variables : List Variable) → KnowsAll (known_in variables (set lists place None)) (known_in variables lists)
  fewer_known variables name list e = known_before (place_of variables name) list e

  free_before : (o : Option ℕ) (list : List Text) → option_and_then (free_at (set lists place None) (set marks place false)) o
      ≡ Some list → option_and_then (free_at lists marks) o ≡ Some list
  free_before None list e = absurd cc
  free_before (Some other) list e =
      let parts = free_parts (set lists place None) (set marks place false) other list e in
      let made = made_before other list parts.1 in
      free_again lists marks other (sym (ap (λ (o : Option Bool). unwrap_or o false) (get_set_other marks place other false made.0))
      ∙ parts.0) ∙ made.1

  pub fewer_free : (variables : List Variable) → KnowsAll (free_in variables (set lists place None) (set marks place false))
      (free_in variables lists marks)
  fewer_free variables name list e = free_before (place_of variables name) list e

-- ---- a place is marked

module _ (lists : Lists) (marks : List Bool) (place : ℕ) (low : place < length marks) where
  pub marked_itself : is_marked (set marks place true) place ≡ true
  marked_itself = ap (λ (o : Option Bool). unwrap_or o false) (get_set_same marks place true low)

  marked_elsewhere : (other : ℕ) → other ≢ place → is_marked (set marks place true) other ≡ is_marked marks other
  marked_elsewhere other apart = ap (λ (o : Option Bool). unwrap_or o false) (get_set_other marks place other true apart)

  free_unmarked : (o : Option ℕ) (list : List Text) → option_and_then (free_at lists (set marks place true)) o ≡ Some list →
      option_and_then (free_at lists marks) o ≡ Some list
  free_unmarked None list e = absurd cc
  free_unmarked (Some other) list e =
      let parts = free_parts lists (set marks place true) other list e in
      let apart : other ≢ place = λ same. let not_so : true ≡ false = sym marked_itself ∙ ap (is_marked (set marks place true)) (sym same)
      ∙ parts.0 in absurd cc in
      free_again lists marks other (sym (marked_elsewhere other apart) ∙ parts.0) ∙ parts.1

  pub free_with_less : (variables : List Variable) → KnowsAll (free_in variables lists (set marks place true))
      (free_in variables lists marks)
  free_with_less variables name list e = free_unmarked (place_of variables name) list e

  pub noted_too : (places : List ℕ) → ((other : ℕ) → is_marked marks other ≡ true → Contains places other) → (other : ℕ) →
      is_marked (set marks place true) other ≡ true → Contains (places ++ place ∷ []) other
  noted_too places noted other e =
      ⊎_elim
      (λ same. Contains-append_right places (place ∷ []) other (contained_first place [] other (sym same)))
      (λ apart. Contains-append_left places (place ∷ []) other (noted other (sym (marked_elsewhere other apart) ∙ e)))
      (cases_eq other place)

pub all_within : (places : List ℕ) (last n : ℕ) → ((place : ℕ) → Contains places place → place < n) → last < n → (place : ℕ) →
    Contains (places ++ last ∷ []) place → place < n
all_within places last n within low place h =
    ⊎_elim (within place) (λ at. ⊎_elim (λ same. subst (λ p. p < n) same low) (λ none. absurd (omega (arith, none.1)))
    (contained last [] place at)) (Contains-append_cases places (last ∷ []) place h)

-- a place that is noted, and isn't the last, is noted before it
pub noted_before : (places : List ℕ) (last place : ℕ) → place ≢ last → Contains (places ++ last ∷ []) place → Contains places place
noted_before places last place apart h =
    ⊎_elim (λ before. before) (λ at. ⊎_elim (λ same. absurd (apart (sym same))) (λ none. absurd (omega (arith, none.1)))
    (contained last [] place at)) (Contains-append_cases places (last ∷ []) place h)

pub last_noted : (places : List ℕ) (last : ℕ) → Contains (places ++ last ∷ []) last
last_noted places last = Contains-append_right places (last ∷ []) last (contained_first last [] last refl)

-- ---- where no place is marked

module _ (lists : Lists) (marks : List Bool) (none : (place : ℕ) → is_marked marks place ≡ false) where
  free_made : (o : Option ℕ) (list : List Text) → option_and_then (list_made lists) o ≡ Some list →
      option_and_then (free_at lists marks) o ≡ Some list
  free_made None list e = absurd cc
  free_made (Some place) list e = free_again lists marks place (none place) ∙ e

  -- all that is known is free
  pub known_free : (variables : List Variable) → KnowsAll (known_in variables lists) (free_in variables lists marks)
  known_free variables name list e = free_made (place_of variables name) list e

-- a place is marked or not
pub none_marked : (marks : List Bool) (place : ℕ) → (is_marked marks place ≡ true → ⊥) → is_marked marks place ≡ false
none_marked marks place not_so =
    elim (is_marked marks place) as (λ b. (b ≡ true → ⊥) → b ≡ false) [
      | true ↦ λ h. absurd (h refl)
      | false ↦ λ h. refl
    ] not_so

-- ---- one more place, where nothing is made

pub none_more : (lists : Lists) (k : ℕ) → ((j : ℕ) → list_made lists j ≡ None) → list_made (lists ++ None ∷ []) k ≡ None
none_more [] zero none = refl
none_more [] (suc k) none = refl
none_more (list ∷ lists) zero none = none zero
none_more (list ∷ lists) (suc k) none = none_more lists k (λ j. none (suc j))

pub unmarked_more : (marks : List Bool) (k : ℕ) → ((j : ℕ) → is_marked marks j ≡ false) → is_marked (marks ++ false ∷ []) k ≡ false
unmarked_more [] zero none = refl
unmarked_more [] (suc k) none = refl
unmarked_more (mark ∷ marks) zero none = none zero
unmarked_more (mark ∷ marks) (suc k) none = unmarked_more marks k (λ j. none (suc j))

module _ (lists : Lists) (none : (k : ℕ) → list_made lists k ≡ None) where
  none_there : (o : Option ℕ) (list : List Text) → option_and_then (list_made lists) o ≡ Some list → ⊥
  none_there None list e = absurd cc
  none_there (Some place) list e = let not_so : None ≡ Some list = sym (none place) ∙ e in absurd cc

  pub nothing_known : (variables : List Variable) (name : Text) (list : List Text) → known_in variables lists name ≡ Some list → ⊥
  nothing_known variables name list e = none_there (place_of variables name) list e

  pub nothing_free : (marks : List Bool) (variables : List Variable) (name : Text) (list : List Text) → free_in variables lists marks name
      ≡ Some list → ⊥
  nothing_free marks variables name list e = nothing_known variables name list (free_known lists marks variables name list e)
