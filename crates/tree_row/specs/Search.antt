-- What a search in the index finds, in each row that may be the one that is read and encodes a tree.
use Rattle.std.specs.Prelude.{◌≡◌, ◌≢◌, ℕ, ◌+◌, ◌^◌, ◌<◌, ◌≤◌, Bool, List, Option, Some, None}
use Rattle.path_lookup.specs.World.{World}
use Rattle.row_index.specs.Places.{index_length}
use Rattle.tree_row.specs.declared.cells.TheConstants.{MOST_ENTRIES}
use Rattle.tree_row.specs.declared.index.RowIndex.{RowIndex}
use Rattle.tree_row.specs.Rows.{index_base}
use Rattle.tree_row.specs.Slots.{slot_at, IsUsed, IsChildSlot}
use Rattle.tree_row.specs.Questions.{Tells}
use Rattle.tree_row.specs.Worlds.{EncodesWorld}

-- what holds in each of them
abbrev pub InEncoding : ℕ → (List ℕ → Type 0) → (List ℕ → Type 0) → Type 0
InEncoding capacity may P = (row : List ℕ) (w : World) → may row → EncodesWorld capacity row w → P row

-- none of them encodes a tree
abbrev pub EncodesNone : ℕ → (List ℕ → Type 0) → Type 0
EncodesNone capacity may = InEncoding capacity may (λ _. ⊥)

-- the slot of the entry of a component in the directory of a slot, or that there is none
abbrev pub TellsFound : ℕ → (List ℕ → Type 0) → ℕ → List ℕ → Option ℕ → Type 0
TellsFound capacity may directory component (Some s) = (s < capacity + 1)
    × InEncoding capacity may (λ row. IsChildSlot (capacity + 1) (slot_at row) directory component s)
TellsFound capacity may directory component None =
    InEncoding capacity may (λ row. (s : ℕ) → ¬ (IsChildSlot (capacity + 1) (slot_at row) directory component s))

-- whether a slot, if it is used, holds such an entry
abbrev pub TellsChild : ℕ → (List ℕ → Type 0) → ℕ → List ℕ → ℕ → Bool → Type 0
TellsChild capacity may directory component s is = InEncoding capacity may
    (λ row. IsUsed (capacity + 1) (slot_at row) s → Tells is (IsChildSlot (capacity + 1) (slot_at row) directory component s))

-- the slot that a word of the index names, if it is that of such an entry
abbrev pub TellsNamed : ℕ → (List ℕ → Type 0) → ℕ → List ℕ → ℕ → Option ℕ → Type 0
TellsNamed capacity may directory component word (Some s) = (0 < s) × (s < capacity + 1) × (word ≡ s + 1)
    × InEncoding capacity may
    (λ row. IsUsed (capacity + 1) (slot_at row) s → IsChildSlot (capacity + 1) (slot_at row) directory component s)
TellsNamed capacity may directory component word None =
    InEncoding capacity may (λ row. (s : ℕ) → IsChildSlot (capacity + 1) (slot_at row) directory component s → word ≢ s + 1)

-- where the index of a row is that has room for `capacity` entries besides the root, as many as are allowed
pub record IsIndexOf (capacity : ℕ) (index : RowIndex) : Type 0 where
  pub base : index.base ≡ index_base capacity
  pub length : index.length ≡ index_length capacity
  pub power : (k : ℕ) × (index.length ≡ 2 ^ k)
  pub few : capacity ≤ MOST_ENTRIES
  pub small : index.base + index.length < 2 ^ 32
