-- The way from a first variable to the one whose list is being made; each list on it waits for the next.
use Rattle.std.specs.Prelude.{◌≡◌, ◌≢◌, ◌<◌, ℕ, List, [], ◌∷◌, length, map, take, suc, ◌+◌, ◌⊎◌, IsSome, Option, Some, None, slice_get}
use Rattle.std.specs.Prelude.{unwrap_or, option_and_then, Bool, true, false, ◌==◌, Contains}
use Rattle.std.specs.List.{list_any}
use Rattle.std.specs.Option.{option_map_or}
use Rattle.apparmor_pieces.specs.Pieces.{Text}
use Rattle.apparmor_variables.specs.Variables.{Variable, Known, list_at, names_needed, with_first_value}
use Rattle.apparmor_variables.specs.inner.Known.{place_of, known_in, is_marked, is_named_marked, free_in}
use Rattle.apparmor_variables.specs.declared.made_lists.Made.{Made}
use Rattle.apparmor_variables.specs.declared.made_lists.Step.{Step}

abbrev pub Lists : Type 0
Lists = List (Option (List Text))

-- how many lists are made
abbrev pub made_count : Lists → ℕ
made_count [] = 0
made_count (None ∷ lists) = made_count lists
made_count (Some list ∷ lists) = suc (made_count lists)

-- whatever was known still is
abbrev pub KnowsAll : Known → Known → Type 0
KnowsAll old new = (name : Text) (list : List Text) → old name ≡ Some list → new name ≡ Some list

-- What is made is right: each list that is made is that of its variable, which needs at most `levels` levels of variables;
-- for one whose place isn't marked this holds whatever value the first variable has; and places that are marked are noted.
pub record IsSound (variables : List Variable) (made : Made) : Type 0 where
  pub lists : length made.lists.items ≡ length variables
  pub met : length made.met.items ≡ length variables
  pub marks : length made.needs_first.items ≡ length variables
  pub levels : ℕ
  pub right : KnowsAll (known_in variables made.lists.items) (list_at levels variables)
  pub free : (value : Text) → KnowsAll (free_in variables made.lists.items made.needs_first.items)
      (list_at levels (with_first_value variables value))
  pub noted : (place : ℕ) → is_marked made.needs_first.items place ≡ true → Contains made.needing_first.items place
  pub within : (place : ℕ) → Contains made.needing_first.items place → place < length variables

-- each of these has a list that is known
abbrev pub AreKnown : Known → List Text → Type 0
AreKnown known [] = Unit {0}
AreKnown known (name ∷ names) = IsSome (known name) × AreKnown known names

-- the variable at a place
abbrev pub variable_at : List Variable → ℕ → Variable
variable_at variables place = unwrap_or (slice_get variables place) (record { name = []; values = [] })

-- the names that it needs
abbrev pub needed_at : List Variable → ℕ → List Text
needed_at variables place = names_needed (variable_at variables place).values

-- the list of the variable at that place doesn't need the first variable: it isn't the first, and none that it needs is marked
abbrev pub IsFree : List Variable → List Bool → ℕ → Type 0
IsFree variables marks place = (place ≢ 0) × (list_any (is_named_marked variables marks) (needed_at variables place) ≡ false)

-- A variable on the way: its own list isn't made, those of the first names that it needs are, and `before` variables precede it.
pub record IsStep (variables : List Variable) (lists : Lists) (met : List ℕ) (before : ℕ) (step : Step) : Type 0 where
  pub named : place_of variables (variable_at variables step.variable).name ≡ Some step.variable
  pub unmade : slice_get lists step.variable ≡ Some None
  pub met_at : slice_get met step.variable ≡ Some before
  pub first_known : AreKnown (known_in variables lists) (take step.next (needed_at variables step.variable))

-- the names of the variables on the way
abbrev pub names_of : List Variable → List Step → List Text
names_of variables steps = map (λ (step : Step). (variable_at variables step.variable).name) steps

-- The steps, in reverse order, lead from the variable of the first name to that name: each waits for the next.
abbrev pub Waits : List Variable → Lists → List ℕ → Text → List Step → Text → Type 0
Waits variables lists met first [] name = name ≡ first
Waits variables lists met first (step ∷ before) name =
    IsStep variables lists met (length before) step
    × (slice_get (needed_at variables step.variable) step.next ≡ Some name)
    × Waits variables lists met first before (variable_at variables step.variable).name

-- The same up to the last step itself. If there are no steps, the first list is made.
abbrev pub IsWay : List Variable → Lists → List ℕ → Text → List Step → Type 0
IsWay variables lists met first [] = IsSome (known_in variables lists first)
IsWay variables lists met first (step ∷ before) =
    IsStep variables lists met (length before) step
    × Waits variables lists met first before (variable_at variables step.variable).name

-- Whether the variable at that place is on the way, which is given first step first: it is iff it is where it was last met.
abbrev pub is_on : List ℕ → List Step → ℕ → Bool
is_on met way place = option_map_or (λ (step : Step). step.variable == place) (option_and_then (slice_get way) (slice_get met place)) false

-- A step nearer to the end: one more list is made, and the way, from which a step was taken off, is one step shorter than
-- with it; or no more lists are made, and the way is one step longer.
abbrev pub IsNearer : Lists → List Step → Lists → List Step → Type 0
IsNearer old before new after =
    ((made_count new ≡ made_count old + 1) × (length after ≡ length before))
    ⊎ ((made_count new ≡ made_count old) × (length after ≡ length before + 2))

-- the name of the first variable on the way that leads to that name
abbrev pub first_name : List Variable → List Step → Text → Text
first_name variables [] name = name
first_name variables (step ∷ before) name = first_name variables before (variable_at variables step.variable).name
