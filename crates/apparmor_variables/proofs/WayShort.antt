-- The way is no longer than there are variables, and each step on it comes nearer to its end.
use Rattle.std.proofs.Common.{◌≡◌, ℕ, ◌+◌, ◌-◌, ◌*◌, ◌<◌, ◌≤◌, Bool, true, false, eqb, List, [], ◌∷◌, length, map, Some, refl, sym, ap}
use Rattle.std.proofs.Common.{◌∙◌, ◌⊎◌, inl, inr, ⊎_elim, arith}
use Rattle.std.specs.Prelude.{slice_get, ◌||◌}
use Rattle.std.specs.List.{IsDistinct, AllByRecursion, list_any}
use Rattle.std.proofs.lemmas.Bool.{ne_eqb, eqb-true}
use Rattle.std.proofs.lemmas.List.{length-map}
use Rattle.std.proofs.lemmas.Map.Steps.{length-le_from_distinct_below}
use Rattle.apparmor_pieces.specs.Pieces.{Text}
use Rattle.apparmor_variables.specs.Variables.{Variable}
use Rattle.apparmor_variables.specs.inner.Way.{Lists, variable_at, IsStep, Waits, IsWay, first_name}
use Rattle.apparmor_variables.specs.declared.made_lists.Step.{Step}
use Rattle.apparmor_variables.proofs.KnownLists.{stands_at}

abbrev place : Step → ℕ
place step = step.variable

module _ (variables : List Variable) (lists : Lists) (met : List ℕ) (first : Text) where
  none_of_them : (steps : List Step) (name : Text) (other n : ℕ) → Waits variables lists met first steps name → slice_get met other
      ≡ Some n → length steps ≤ n
      → AllByRecursion (λ y. eqb other y ≡ false) (map place steps)
  none_of_them [] name other n waits at deep = tt
  none_of_them (step ∷ before) name other n waits at deep = (
    ne_eqb other step.variable (λ same.
        let both : Some (length before) ≡ Some n = sym waits.0.met_at ∙ ap (slice_get met) (sym same) ∙ at in
        let equal : length before ≡ n = cc in
        omega arith),
    none_of_them before (variable_at variables step.variable).name other n waits.2 at (omega arith),
  )

  all_distinct : (steps : List Step) (name : Text) → Waits variables lists met first steps name → IsDistinct eqb (map place steps)
  unfolding IsDistinct
  all_distinct [] name waits = tt
  all_distinct (step ∷ before) name waits = (
    none_of_them before (variable_at variables step.variable).name step.variable (length before) waits.2 waits.0.met_at (omega arith),
    all_distinct before (variable_at variables step.variable).name waits.2,
  )

  is_within : (step : Step) (n : ℕ) → IsStep variables lists met n step → step.variable < length variables
  is_within step n is = (stands_at variables (variable_at variables step.variable).name step.variable is.named).within

  one_of : (a b : Bool) → a || b ≡ true → (a ≡ true) ⊎ (b ≡ true)
  one_of true b e = inl refl
  one_of false b e = inr e

  all_within : (steps : List Step) (name : Text) → Waits variables lists met first steps name → (q : ℕ) →
      list_any (eqb q) (map place steps) ≡ true → q < length variables
  all_within [] name waits q e = absurd cc
  all_within (step ∷ before) name waits q e =
      ⊎_elim (λ here. let same : q ≡ step.variable = eqb-true q step.variable here in let low = is_within step (length before) waits.0 in
      omega (arith, same, low))
      (λ later. all_within before (variable_at variables step.variable).name waits.2 q later)
      (one_of (eqb q step.variable) (list_any (eqb q) (map place before)) e)

  distinct_way : (steps : List Step) → IsWay variables lists met first steps → IsDistinct eqb (map place steps)
  unfolding IsDistinct
  distinct_way [] way = tt
  distinct_way (step ∷ before) way = (
    none_of_them before (variable_at variables step.variable).name step.variable (length before) way.1 way.0.met_at (omega arith),
    all_distinct before (variable_at variables step.variable).name way.1,
  )

  within_way : (steps : List Step) → IsWay variables lists met first steps → (q : ℕ) → list_any (eqb q) (map place steps) ≡ true →
      q < length variables
  within_way [] way q e = absurd cc
  within_way (step ∷ before) way q e =
      ⊎_elim (λ here. let same : q ≡ step.variable = eqb-true q step.variable here in let low = is_within step (length before) way.0 in
      omega (arith, same, low))
      (λ later. all_within before (variable_at variables step.variable).name way.1 q later)
      (one_of (eqb q step.variable) (list_any (eqb q) (map place before)) e)

  pub short : (steps : List Step) → IsWay variables lists met first steps → length steps ≤ length variables
  short steps way =
      let h = length-le_from_distinct_below (map place steps) (length variables) (distinct_way steps way) (within_way steps way) in
      let n = length-map steps place in
      omega (arith, h, n)

  first_waits : (steps : List Step) (name : Text) → Waits variables lists met first steps name → first_name variables steps name ≡ first
  first_waits [] name waits = waits
  first_waits (step ∷ before) name waits = first_waits before (variable_at variables step.variable).name waits.2

  -- the first name is the one that was asked for
  pub asked_first : (steps : List Step) (step : Step) → IsWay variables lists met first (step ∷ steps) →
      first_name variables steps (variable_at variables step.variable).name ≡ first
  asked_first steps step way = first_waits steps (variable_at variables step.variable).name way.1

-- what is left to do, by how many of `all` lists are made, and how many steps the way has
abbrev pub left_to_do : ℕ → ℕ → ℕ → ℕ
left_to_do all made steps = (all - made) * (all + 1) + (all - steps)

pub one_list_more : (all made steps : ℕ) → made + 1 ≤ all → steps + 1 ≤ all →
    left_to_do all (made + 1) steps < left_to_do all made (steps + 1)
one_list_more all made steps few short =
    let rest = all - (made + 1) in
    let more : all - made ≡ rest + 1 = omega arith in
    let spread : (rest + 1) * (all + 1) ≡ rest * (all + 1) + (all + 1) = grind arith in
    let big : (all - made) * (all + 1) ≡ rest * (all + 1) + (all + 1) = ap (λ x. x * (all + 1)) more ∙ spread in
    omega (arith, big)

pub one_step_more : (all made steps : ℕ) → steps + 1 ≤ all → left_to_do all made (steps + 1) < left_to_do all made steps
one_step_more all made steps short = omega arith
