-- Words that a walk reads from a row, in addition to those that were known before.
use Rattle.std.specs.Prelude.{◌≡◌, ℕ, ◌<◌, List, length, Some, None, Result}
use Rattle.names.specs.declared.errors.Errno.{Errno}
use Rattle.directory_tree.specs.Tree.{Tree}
use Rattle.tree_row.specs.Rows.{row_length}
use Rattle.tree_row.specs.declared.stop.Stop.{Stop}
use Rattle.tree_row.specs.Known.{known_at, Agrees, Stops}

-- none of the words that were read was known before
abbrev pub AreNew : List (ℕ × ℕ) → List (ℕ × ℕ) → Type 0
AreNew known read = (place n : ℕ) → known_at read place ≡ Some n → known_at known place ≡ None

abbrev pub AgreesBoth : List (ℕ × ℕ) → List (ℕ × ℕ) → List ℕ → Type 0
AgreesBoth known read row = Agrees known row × Agrees read row

-- a place of the row whose word neither was known before nor was read, after as many words were read as may be
abbrev pub IsNext : ℕ → List (ℕ × ℕ) → List (ℕ × ℕ) → ℕ → ℕ → Type 0
IsNext capacity known read most place = (place < row_length capacity) × (known_at known place ≡ None) × (known_at read place ≡ None)
    × (length read ≡ most)

abbrev pub StopsReading : {X : Type 0} → ℕ → List (ℕ × ℕ) → List (ℕ × ℕ) → ℕ → (Tree → Result X Errno) → Stop → Type 0
StopsReading capacity known read most = Stops capacity (AgreesBoth known read) (IsNext capacity known read most) (Unit {0})
