-- The view of a keeper's parts, and the invariant between them.
use Rattle.std.specs.Prelude.{◌≡◌, ℕ, ◌+◌, ◌<◌, ◌≤◌, List, [], ◌∷◌, ◌++◌, length, drop, Option, Some, None, Ok}
use Rattle.std.specs.List.{All}
use Rattle.directory_tree.specs.declared.change.Change.{Change}
use Rattle.directory_tree.specs.declared.change.Change.TheVariants.{Mkdir}
use Rattle.directory_tree.specs.Tree.{Tree}
use Rattle.directory_tree.specs.Apply.{tree_after, most_changes}
use Rattle.row_rule.specs.declared.cell.Cell.{Cell}
use Rattle.row_rule.specs.declared.view.KeeperView.{KeeperView}
use Rattle.row_rule.specs.declared.view.Pending.{Pending}
use Rattle.row_rule.specs.Row.{left_of, target_of, write, pending_count}
use Rattle.tree_row.specs.Rows.{Encodes, row_length}
use Rattle.row_keeper.specs.declared.open_change.OpenChange.{OpenChange}

-- the last change of a nonempty list
abbrev pub last_from : Change → List Change → Change
last_from change [] = change
last_from change (next ∷ rest) = last_from next rest

abbrev pub last_of : List Change → Change
last_of changes = elim changes [ [] ↦ Mkdir [] | change ∷ rest ↦ last_from change rest ]

-- the open change, of which the first `set` cells are set
abbrev pub pending_of : Option OpenChange → ℕ → Option Pending
pending_of None set = None
pending_of (Some o) set = Some record { change = last_of o.target.events; left = drop set o.plan.items }

abbrev pub view_with : List ℕ → List Change → Option OpenChange → ℕ → KeeperView
view_with cells history opened set = record { history = history; cells = cells; pending = pending_of opened set; met = [] }

-- Once the open change is closed, the changes are the earlier ones and one more. No more cells are set than the plan has, and all
-- of them are in the row.
abbrev pub IsOpenIn : ℕ → List Change → Option OpenChange → ℕ → Type 0
IsOpenIn size history None set = Unit {0}
IsOpenIn size history (Some o) set =
    (o.target.events ≡ history ++ last_of o.target.events ∷ []) × (set ≤ length o.plan.items)
    × All (λ (cell : Cell). cell.place < size) o.plan.items

-- Once the cells that are left are set, the row encodes the tree after the changes that are then made.
pub record IsKept (capacity : ℕ) (cells : List ℕ) (next version : ℕ) (history : List Change) (opened : Option OpenChange)
    (set : ℕ) : Type 0 where
  pub tree : Tree
  pub made : tree_after capacity (target_of history (pending_of opened set)) ≡ Ok tree
  pub encodes : Encodes capacity (write cells (left_of (pending_of opened set))) tree
  pub next_is : next ≡ tree.next
  pub next_low : next ≤ version + pending_count (pending_of opened set) + 2
  pub version_is : version ≡ length history
  pub few : version + pending_count (pending_of opened set) ≤ most_changes
  pub is_open : IsOpenIn (row_length capacity) history opened set
