-- Lists of least names.
use Rattle.std.specs.Prelude.{◌≡◌, ℕ, ◌<◌, List, [], ◌∷◌, Option, Some, None, Vec, map, slice_get}
use Rattle.std.specs.declared.alloc.Global.{Global}
use Rattle.automaton_search.specs.Order.{IsLess}
use Rattle.question_answers.specs.Below.{IsLeastName}

-- the list has the name
abbrev pub IsListed : List (List ℕ) → List ℕ → Type 0
IsListed names name = (i : ℕ) × (slice_get names i ≡ Some name)

-- Names in ascending order: each of them is the least with some key, and for each key that some name has, the least name with it is
-- among them.
pub record AreLeastNames {K : Type 0} (Has : K → List ℕ → Type 0) (names : List (List ℕ)) : Type 0 where
  pub ascending : (i j : ℕ) (name other : List ℕ) → i < j → slice_get names i ≡ Some name → slice_get names j ≡ Some other →
      IsLess name other
  pub each : (name : List ℕ) → IsListed names name → (k : K) × IsLeastName (Has k) (Some name)
  pub all : (k : K) (name : List ℕ) → Has k name → (least : List ℕ) × IsListed names least × IsLeastName (Has k) (Some least)

abbrev pub names_of : Option (List ℕ) → List (List ℕ)
names_of None = []
names_of (Some name) = name ∷ []

-- the least name of all, in a list, or an empty list if there is none
abbrev pub AreLeast : (List ℕ → Type 0) → List (List ℕ) → Type 0
AreLeast Has names = (found : Option (List ℕ)) × IsLeastName Has found × (names ≡ names_of found)

-- names as they are kept
abbrev pub listed : List (Vec ℕ Global) → List (List ℕ)
listed names = map (λ name. name.items) names
