-- The way to a list: which variables wait on it, what a problem at its end means for the first, and what a step on it changes.
use Rattle.std.proofs.Common.{◌≡◌, ◌≢◌, ℕ, zero, suc, ◌<◌, ◌≤◌, true, false, eqb, List, [], ◌∷◌, ◌++◌, length, take, drop, set, map}
use Rattle.std.proofs.Common.{reverse, Option, Some, None, refl, sym, ap, ◌∙◌, subst, inl, inr, append-nil, append_assoc, arith}
use Rattle.std.specs.Prelude.{slice_get, option_and_then, Contains, ◌==◌}
use Rattle.std.specs.Option.{option_map_or}
use Rattle.std.proofs.lemmas.List.{reverse-append, length-reverse, reverse-reverse, map-append}
use Rattle.std.proofs.lemmas.List.Elements.{Contains-append_left, Contains-append_right}
use Rattle.std.proofs.lemmas.Bool.{eq-eqb, eqb-true}
use Rattle.apparmor_pieces.specs.Pieces.{Text}
use Rattle.apparmor_variables.specs.Variables.{Variable, list_at}
use Rattle.apparmor_variables.specs.Problems.{Problem, HasProblem, Through}
use Rattle.apparmor_variables.specs.inner.Known.{place_of, list_made, known_in}
use Rattle.apparmor_variables.specs.inner.Way.{Lists, KnowsAll, variable_at, needed_at, names_of, Waits, IsWay, is_on}
use Rattle.apparmor_variables.specs.declared.made_lists.Step.{Step}
use Rattle.apparmor_variables.proofs.Gets.{get_set_same, get_set_other, get_at, get_is, split_at_get, contained, contained_first}
use Rattle.apparmor_variables.proofs.KnownLists.{stands_at, are_listed}

-- ---- each variable is on the way once

module _ (variables : List Variable) (lists : Lists) (met : List ℕ) (first : Text) where
  -- a variable that was met past these steps is none of theirs
  pub apart : (steps : List Step) (name : Text) (place n : ℕ) → Waits variables lists met first steps name → slice_get met place ≡ Some n →
      length steps ≤ n
      → (other : Text) → place_of variables other ≡ Some place → Contains (names_of variables steps) other → ⊥
  apart [] name place n waits at deep other stands has = omega (arith, has.1)
  apart (step ∷ before) name place n waits at deep other stands has =
      elim (contained (variable_at variables step.variable).name (names_of variables before) other has) [
        | inl e ↦
            let same : Some step.variable ≡ Some place = sym waits.0.named ∙ ap (place_of variables) e ∙ stands in
            let here : step.variable ≡ place = cc in
            let both : Some (length before) ≡ Some n = sym waits.0.met_at ∙ ap (slice_get met) here ∙ at in
            let equal : length before ≡ n = cc in
            omega arith
        | inr h ↦ apart before (variable_at variables step.variable).name place n waits.2 at (omega arith) other stands h
      ]

  -- the names that a step needs before the one that it waits for
  pub waiting : (step : Step) (name : Text) → slice_get (needed_at variables step.variable) step.next ≡ Some name
      → needed_at variables step.variable ≡ take step.next (needed_at variables step.variable) ++ name ∷ drop (suc step.next)
      (needed_at variables step.variable)
  waiting step name e = split_at_get (needed_at variables step.variable) step.next name e

  -- a problem at the end of the way is the first variable's
  pub lifted : (n : ℕ) → KnowsAll (known_in variables lists) (list_at n variables) → (steps : List Step) (name : Text) (problem : Problem)
      → Waits variables lists met first steps name → HasProblem variables (names_of variables steps) name problem →
      HasProblem variables [] first problem
  lifted n right [] name problem waits has = subst (λ (x : Text). HasProblem variables [] x problem) waits has
  lifted n right (step ∷ before) name problem waits has =
      let here = (variable_at variables step.variable).name in
      let stands = stands_at variables here step.variable waits.0.named in
      lifted n right before here problem waits.2
      (Through (names_of variables before) here (variable_at variables step.variable).values
      (take step.next (needed_at variables step.variable)) (drop (suc step.next) (needed_at variables step.variable)) name problem
      stands.valued
      (apart before here step.variable (length before) waits.2 waits.0.met_at (omega arith) here waits.0.named)
      (waiting step name waits.1)
      (are_listed variables (known_in variables lists) n right (take step.next (needed_at variables step.variable)) waits.0.first_known)
      has)

-- ---- which variables are on the way

is_itself : (n : ℕ) → eqb n n ≡ true
is_itself n = eq-eqb n n refl

-- a step is on the way where it was met
stands_on : (met : List ℕ) (way : List Step) (step : Step) (n : ℕ) → slice_get met step.variable ≡ Some n → slice_get way n ≡ Some step →
    is_on met way step.variable ≡ true
stands_on met way step n at there =
    ap (λ o. option_map_or (λ (s : Step). s.variable == step.variable) (option_and_then (slice_get way) o) false) at
    ∙ ap (λ o. option_map_or (λ (s : Step). s.variable == step.variable) o false) there
    ∙ is_itself step.variable

-- the step after these, on a way given first step first
there : (before rest : List Step) (step : Step) → slice_get (reverse before ++ step ∷ rest) (length before) ≡ Some step
there before rest step = ap (slice_get (reverse before ++ step ∷ rest)) (sym (length-reverse before)) ∙ get_at (reverse before) rest step

one_further : (before rest : List Step) (step : Step) → reverse (step ∷ before) ++ rest ≡ reverse before ++ step ∷ rest
one_further before rest step = ap (λ (x : List Step). x ++ rest) (reverse-append (step ∷ []) before)
    ∙ append_assoc (reverse before) (step ∷ []) rest

-- where another variable is met, these wait as before
pub met_elsewhere : (variables : List Variable) (lists : Lists) (met : List ℕ) (first : Text) (way : List Step) (place n : ℕ) →
    is_on met way place ≡ false
    → (steps rest : List Step) (name : Text) → way ≡ reverse steps ++ rest → Waits variables lists met first steps name →
    Waits variables lists (set met place n) first steps name
met_elsewhere variables lists met first way place n off [] rest name is waits = waits
met_elsewhere variables lists met first way place n off (step ∷ before) rest name is waits =
    let further : way ≡ reverse before ++ step ∷ rest = is ∙ one_further before rest step in
    let on : is_on met way step.variable ≡ true = stands_on met way step (length before) waits.0.met_at
    (ap (λ w. slice_get w (length before)) further ∙ there before rest step) in
    let other : step.variable ≢ place = λ e. let no : true ≡ false = sym on ∙ ap (is_on met way) e ∙ off in absurd cc in (
      record {
        named = waits.0.named;
        unmade = waits.0.unmade;
        met_at = get_set_other met place step.variable n other ∙ waits.0.met_at;
        first_known = waits.0.first_known;
      },
      waits.1,
      met_elsewhere variables lists met first way place n off before (step ∷ rest) (variable_at variables step.variable).name
          further waits.2,
    )

some_step : (o : Option Step) (place : ℕ) → option_map_or (λ (s : Step). s.variable == place) o false ≡ true → (step : Step)
    × (o ≡ Some step) × (step.variable ≡ place)
some_step None place e = absurd cc
some_step (Some step) place e = (step, refl, eqb-true step.variable place e)

some_place : (way : List Step) (o : Option ℕ) (place : ℕ) → option_map_or (λ (s : Step). s.variable == place)
    (option_and_then (slice_get way) o) false ≡ true
    → (k : ℕ) × (step : Step) × (slice_get way k ≡ Some step) × (step.variable ≡ place)
some_place way None place e = absurd cc
some_place way (Some k) place e = let h = some_step (slice_get way k) place e in (k, h.0, h.1, h.2)

last_or_before : (name : Step → Text) (others : List Text) (y : Step) (way : List Step) (k : ℕ) (step : Step) →
    slice_get (y ∷ way) k ≡ Some step
    → ((j : ℕ) → slice_get way j ≡ Some step → Contains others (name step)) → Contains (others ++ name y ∷ []) (name step)
last_or_before name others y way zero step e before =
    let same : y ≡ step = cc in Contains-append_right others (name y ∷ []) (name step)
    (contained_first (name y) [] (name step) (ap name same))
last_or_before name others y way (suc k) step e before = Contains-append_left others (name y ∷ []) (name step) (before k e)

among_names : (variables : List Variable) (way : List Step) (k : ℕ) (step : Step) → slice_get way k ≡ Some step →
    Contains (names_of variables (reverse way)) (variable_at variables step.variable).name
among_names variables [] k step e = absurd cc
among_names variables (y ∷ way) k step e =
    let name : Step → Text = λ s. (variable_at variables s.variable).name in
    let whole : names_of variables (reverse way) ++ name y ∷ [] ≡ names_of variables (reverse (y ∷ way)) =
    sym (ap (map name) (reverse-append (y ∷ []) way) ∙ map-append name (reverse way) (y ∷ [])) in
    subst (λ (names : List Text). Contains names (name step)) whole
    (last_or_before name (names_of variables (reverse way)) y way k step e (λ j h. among_names variables way j step h))

-- a variable that is on the way is one of its names
pub on_way : (variables : List Variable) (met : List ℕ) (way : List Step) (name : Text) (place : ℕ) → place_of variables name
    ≡ Some place → is_on met way place ≡ true
    → Contains (names_of variables (reverse way)) name
on_way variables met way name place stands on =
    let h = some_place way (slice_get met place) place on in
    let same : (variable_at variables h.1.variable).name ≡ name = ap (λ p. (variable_at variables p).name) h.3
    ∙ (stands_at variables name place stands).named in
    subst (Contains (names_of variables (reverse way))) same (among_names variables way h.0 h.1 h.2)

not_made : (o : Option (Option (List Text))) (x : Option (List Text)) → o ≡ Some x → option_and_then (λ (list : Option (List Text)). list)
    o ≡ None → o ≡ Some None
not_made None x is none = absurd cc
not_made (Some None) x is none = refl
not_made (Some (Some list)) x is none = absurd cc

-- what isn't known isn't made
pub unmade_at : (variables : List Variable) (lists : Lists) (name : Text) (place : ℕ) → place < length lists → place_of variables name
    ≡ Some place → known_in variables lists name ≡ None
    → slice_get lists place ≡ Some None
unmade_at variables lists name place within stands unknown =
    let at = get_is lists place within in
    not_made (slice_get lists place) at.0 at.1 (sym (ap (option_and_then (list_made lists)) stands) ∙ unknown)

-- a variable is pushed onto the way
pub entered : (variables : List Variable) (lists : Lists) (met : List ℕ) (first : Text) (way : List Step) (name : Text) (place n : ℕ)
    → length lists ≡ length variables → length met ≡ length variables → n ≡ length way
    → place_of variables name ≡ Some place → known_in variables lists name ≡ None → is_on met way place ≡ false
    → Waits variables lists met first (reverse way) name
    → IsWay variables lists (set met place n) first (record { variable = place; next = 0 } ∷ reverse way)
entered variables lists met first way name place n all_lists all_met is stands unknown off waits =
    let at = stands_at variables name place stands in
    let here = (variable_at variables place).name in
    let within = at.within in
    let deep : n ≡ length (reverse way) = is ∙ sym (length-reverse way) in
    let self : way ≡ reverse (reverse way) ++ [] = sym (reverse-reverse way) ∙ sym (append-nil (reverse (reverse way))) in (
      record {
        named = ap (place_of variables) at.named ∙ stands;
        unmade = unmade_at variables lists name place (omega (arith, within)) stands unknown;
        met_at = get_set_same met place n (omega (arith, within)) ∙ ap Some deep;
        first_known = tt;
      },
      subst (Waits variables lists (set met place n) first (reverse way)) (sym at.named)
          (met_elsewhere variables lists met first way place n off (reverse way) [] name self waits),
    )

pub pushed : (way : List Step) (step : Step) → step ∷ reverse way ≡ reverse (way ++ step ∷ [])
pushed way step = sym (reverse-append way (step ∷ []))
