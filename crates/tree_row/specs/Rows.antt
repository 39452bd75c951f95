-- What it means that a row's cells encode a tree: the slots in use and the entries correspond one to one. Which slot holds which
-- entry means nothing, and free slots and bytes past a length may hold anything.
use Rattle.std.specs.Prelude.{◌≡◌, ℕ, ◌+◌, List, length}
use Rattle.row_index.specs.Places.{index_length}
use Rattle.row_index.specs.Hashes.{home}
use Rattle.row_index.specs.Index.{Indexes}
use Rattle.row_index.specs.Edits.{index_at}
use Rattle.directory_tree.specs.Tree.{Tree, Entry, Has}
use Rattle.tree_row.specs.Slots.{Slot, slots_length, slot_at, entry_at, IsUsed, IsDirectorySlot, IsInRange, IsRootSlot}

-- for any mapping from numbers to slots
pub record EncodesSlots (n : ℕ) (f : ℕ → Slot) (t : Tree) : Type 0 where
  -- the first slot is the root's
  pub root : IsRootSlot n (f 0)
  -- each entry is in a directory
  pub in_directory : (s : ℕ) → IsUsed n f s → IsDirectorySlot n f (f s).parent
  pub in_range : (s : ℕ) → IsUsed n f s → IsInRange (f s)
  -- each slot in use holds an entry of the tree
  pub there : (s : ℕ) → IsUsed n f s → Has t (entry_at f s).of (entry_at f s).component (entry_at f s)
  -- each entry of the tree is in exactly one slot
  pub held : (d : ℕ) (c : List ℕ) (e : Entry) → Has t d c e → (s : ℕ) × IsUsed n f s × (entry_at f s ≡ e)
  pub once : (s r : ℕ) → IsUsed n f s → IsUsed n f r → entry_at f s ≡ entry_at f r → s ≡ r

-- the cell at which the index begins in a row with room for `capacity` entries besides the root: after the last slot
abbrev pub index_base : ℕ → ℕ
index_base capacity = slots_length (capacity + 1)

-- the number of cells of such a row
abbrev pub row_length : ℕ → ℕ
row_length capacity = index_base capacity + index_length capacity

-- the place of an index of this size at which the search for a slot's entry begins
abbrev pub home_of : ℕ → Slot → ℕ
home_of size own = home size own.parent own.component

-- the same by the slots of a row
abbrev pub homes_in : ℕ → List ℕ → ℕ → ℕ
homes_in size row s = home_of size (slot_at row s)

-- each used slot is in the index, where a search for its entry finds it
abbrev pub IsIndexed : ℕ → List ℕ → Type 0
IsIndexed capacity row = Indexes (index_length capacity) (index_at row (index_base capacity)) (IsUsed (capacity + 1) (slot_at row))
    (homes_in (index_length capacity) row)

pub record Encodes (capacity : ℕ) (row : List ℕ) (t : Tree) : Type 0 where
  pub long : length row ≡ row_length capacity
  pub slots : EncodesSlots (capacity + 1) (slot_at row) t
  pub index : IsIndexed capacity row
