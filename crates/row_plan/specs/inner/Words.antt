-- Words of an index, at any place of a row, that name slots in use.
use Rattle.std.specs.Prelude.{◌≡◌, ◌⊎◌, ℕ, ◌+◌, ◌<◌, ◌≤◌, List}
use Rattle.row_index.specs.Edits.{index_at}
use Rattle.tree_row.specs.Slots.{slot_at, IsUsed}

-- a word is 0, is 1, or names a slot that is used in the row `before`
abbrev pub IsWordOf : ℕ → List ℕ → ℕ → Type 0
IsWordOf capacity before word = (word ≤ 1) ⊎ ((x : ℕ) × IsUsed (capacity + 1) (slot_at before) x × (word ≡ x + 1))

-- each word of an index of this size is so
abbrev pub NamesIn : ℕ → ℕ → ℕ → List ℕ → List ℕ → Type 0
NamesIn capacity base size before row = (p : ℕ) → p < size → IsWordOf capacity before (index_at row base p)
