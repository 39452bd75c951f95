-- The worlds that agree with what was read of a row: a tree that one of the rows encodes, with its slots' numbers as names.
use Rattle.std.specs.Prelude.{◌≡◌, ◌≢◌, ℕ, zero, suc, ◌+◌, ◌<◌, List}
use Rattle.directory_tree.specs.Walk.{Spot}
use Rattle.directory_tree.specs.Walk.Spot.{Root, Held}
use Rattle.path_lookup.specs.World.{World}
use Rattle.tree_row.specs.Slots.{Slot, slot_at, entry_at}
use Rattle.tree_row.specs.Rows.{Encodes}

-- what a slot stands for
abbrev pub spot_at : (ℕ → Slot) → ℕ → Spot
spot_at f zero = Root
spot_at f (suc s) = Held (entry_at f (suc s))

-- the row encodes the world's tree, and a slot's number names what the slot stands for
pub record EncodesWorld (capacity : ℕ) (row : List ℕ) (w : World) : Type 0 where
  pub tree : Encodes capacity row w.tree
  pub named : (s : ℕ) → w.named s ≡ spot_at (slot_at row) s

-- one of the rows that may be the one that is read encodes the world
abbrev pub SeesBy : ℕ → (List ℕ → Type 0) → World → Type 0
SeesBy capacity may w = (row : List ℕ) × may row × EncodesWorld capacity row w

-- in every row that may be read, and encodes a tree, the slot isn't free
pub record Knows (capacity : ℕ) (may : List ℕ → Type 0) (s : ℕ) : Type 0 where
  pub within : s < capacity + 1
  pub filled : (row : List ℕ) (w : World) → may row → EncodesWorld capacity row w → (slot_at row s).kind ≢ 0

-- after reading, at most the same rows may be the one that is read
abbrev pub Fewer : (List ℕ → Type 0) → (List ℕ → Type 0) → Type 0
Fewer before after = (row : List ℕ) → after row → before row

-- the word has this value in every row that may be read
abbrev pub Reads : (List ℕ → Type 0) → (List ℕ → ℕ) → ℕ → Type 0
Reads may word n = (row : List ℕ) → may row → word row ≡ n
