-- Why a variable has no list.
use Rattle.std.specs.Prelude.{◌≡◌, ℕ, List, [], ◌∷◌, ◌++◌, Some, None, IsSome, Contains}
use Rattle.apparmor_pieces.specs.Pieces.{Text}
use Rattle.apparmor_variables.specs.Variables.{Variable, HasList, values_of, list_at, list_of_values, names_needed}

pub data Problem : Type 0 where
  -- a variable of this name isn't declared
  undefined : Text → Problem
  -- the variable of this name needs itself
  cycle : Text → Problem
  -- a list, or a path's text, is too long
  too_long : Problem

-- the variable has a list
abbrev pub IsListed : List Variable → Text → Type 0
IsListed variables name = (list : List Text) × HasList variables name list

-- each of these variables has a list
abbrev pub AreListed : List Variable → List Text → Type 0
AreListed variables [] = Unit {0}
AreListed variables (name ∷ names) = IsListed variables name × AreListed variables names

-- A variable has this problem, met on the way from a first variable to it; the names on the way come with the last met first.
pub data HasProblem (variables : List Variable) : List Text → Text → Problem → Type 0 where
  -- it isn't declared
  Undeclared : (way : List Text) → (name : Text)
      → (values_of variables name ≡ None) → HasProblem variables way name (undefined name)
  -- its own list is being made
  Met : (way : List Text) → (name : Text)
      → IsSome (values_of variables name) → Contains way name → HasProblem variables way name (cycle name)
  -- the first name that its values use and that has no list has this problem
  Through : (way : List Text) → (name : Text) → (values before after : List Text) → (used : Text) → (problem : Problem)
      → (values_of variables name ≡ Some values) → (¬ Contains way name)
      → (names_needed values ≡ before ++ used ∷ after) → AreListed variables before
      → HasProblem variables (name ∷ way) used problem → HasProblem variables way name problem
  -- all names that its values use have lists, but it has none
  Long : (way : List Text) → (name : Text) → (values : List Text)
      → (values_of variables name ≡ Some values) → (¬ Contains way name)
      → AreListed variables (names_needed values) → ((n : ℕ) → list_of_values (list_at n variables) values ≡ None)
      → HasProblem variables way name too_long
