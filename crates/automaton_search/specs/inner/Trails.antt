-- Trails of visits, and the names by them.
use Rattle.std.specs.Prelude.{◌≡◌, ℕ, ◌<◌, List, [], ◌∷◌, ◌++◌, length, Some, slice_get, slice_index_or}
use Rattle.names.specs.Ascii as ascii
use Rattle.automaton_search.specs.declared.walk.Trail.{Trail}
use Rattle.automaton_search.specs.declared.walk.Walk.{Walk}
use Rattle.automaton_search.specs.Visits.{VisitsValue}

-- The names of trails: that of the first is a slash, and each other one's is that of its parent and one more byte.
pub record AreNames (trails : List Trail) (names : List (List ℕ)) : Type 0 where
  pub each : length names ≡ length trails
  pub first : slice_get names 0 ≡ Some (ascii.slash ∷ [])
  pub later : (j : ℕ) (t : Trail) → 0 < j → slice_get trails j ≡ Some t →
      (t.parent < j) × ((name : List ℕ) × (slice_get names t.parent ≡ Some name) × (slice_get names j ≡ Some (name ++ t.byte ∷ [])))

-- the names, computed one after another
abbrev pub names_from : List (List ℕ) → List Trail → List (List ℕ)
names_from names [] = names
names_from names (t ∷ trails) = names_from (names ++ (slice_index_or names t.parent [] ++ t.byte ∷ []) ∷ []) trails

-- the first trail is a slash, and each other one begins at an earlier visit
abbrev pub GoBack : List Trail → Type 0
GoBack trails = ((t : Trail) → slice_get trails 0 ≡ Some t → t.byte ≡ ascii.slash)
    × ((j : ℕ) (t : Trail) → 0 < j → slice_get trails j ≡ Some t → t.parent < j)

abbrev pub visits_of : Walk → VisitsValue
visits_of walk = record { states = walk.states.keys; names = names_from [] walk.trails.items }
