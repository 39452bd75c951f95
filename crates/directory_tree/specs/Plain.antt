-- The tree in plain memory: its view in contracts, and what a change makes of it.
use Rattle.std.specs.Prelude.{◌≡◌, ◌⊎◌, ℕ, List, [], ◌∷◌, ◌++◌, length, Ok, Err, IsOk}
use Rattle.names.specs.declared.errors.Errno.{Errno}
use Rattle.names.specs.declared.errors.Errno.TheVariants.{ENOMEM}
use Rattle.directory_tree.specs.declared.change.Change.{Change}
use Rattle.directory_tree.specs.Tree.{Tree, root_alone}
use Rattle.directory_tree.specs.Apply.{Changed, apply_counted, tree_after}

-- the number of entries that there is room for, and the changes that were accepted so far, oldest first
pub record Plain : Type 0 where
  pub capacity : ℕ
  pub history : List Change

-- the current tree (a plain tree accepts no change after which there is none)
abbrev pub tree_of : Plain → Tree
tree_of p = elim (tree_after p.capacity p.history) [ Ok t ↦ t | Err e ↦ root_alone ]

abbrev pub new_plain : ℕ → Plain
new_plain capacity = record { capacity = capacity; history = [] }

-- with one more change
abbrev pub changed : Plain → Change → Plain
changed p change = record { capacity = p.capacity; history = p.history ++ change ∷ [] }

-- the tree after one more change, or why it is refused
abbrev pub outcome : Plain → Change → Changed
outcome p change = apply_counted p.capacity (length p.history) (tree_of p) change

-- the change was made, and this is the version that it made
abbrev pub Accepted : Plain → Plain → Change → ℕ → Type 0
Accepted old new change version = (new ≡ changed old change) × (outcome old change ≡ Ok (tree_of new)) × (version ≡ length new.history)

-- nothing was changed: the definition refuses the change by this number, or accepts it and memory was refused
abbrev pub Refused : Plain → Plain → Change → Errno → Type 0
Refused old new change errno = (new ≡ old) × (((errno ≡ ENOMEM) × IsOk (outcome old change)) ⊎ (outcome old change ≡ Err errno))
