-- Trees that changes made, as worlds of the rows that encode them.
use Rattle.std.specs.Prelude.{◌≡◌, ℕ, List, Ok}
use Rattle.directory_tree.specs.declared.change.Change.{Change}
use Rattle.directory_tree.specs.Tree.{Tree, WellFormed}
use Rattle.directory_tree.specs.Apply.{tree_after}
use Rattle.directory_tree.proofs.Changes.{tree_after_well}
use Rattle.path_lookup.specs.World.{World}
use Rattle.tree_row.specs.Slots.{slot_at}
use Rattle.tree_row.specs.Worlds.{spot_at}

-- a tree that changes made is sound
pub sound_after : (capacity : ℕ) (changes : List Change) (t : Tree) → tree_after capacity changes ≡ Ok t → WellFormed t
sound_after capacity changes t made = tree_after_well capacity changes t made

-- its world, in which numbers name the entries of a row's slots
abbrev pub world_after : (capacity : ℕ) (changes : List Change) (row : List ℕ) (t : Tree) → tree_after capacity changes ≡ Ok t → World
world_after capacity changes row t made = record { tree = t; named = spot_at (slot_at row); sound = sound_after capacity changes t made }
