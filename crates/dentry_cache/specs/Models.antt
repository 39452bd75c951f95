-- What contracts see of a keeper, and the outcomes of its calls. Opens concurrently with it cite none of this.
use Rattle.std.specs.Prelude.{◌≡◌, ◌⊎◌, ℕ, List, [], ◌∷◌, ◌++◌, drop, Some, Ok, Err, IsOk, ◌+◌, take}
use Rattle.atomic_table.specs.Seated.{TableId}
use Rattle.names.specs.declared.errors.Errno.{Errno}
use Rattle.names.specs.declared.errors.Errno.TheVariants.{ENOMEM}
use Rattle.directory_tree.specs.declared.change.Change.{Change}
use Rattle.directory_tree.specs.Tree.{Tree, find}
use Rattle.directory_tree.specs.Apply.{tree_after}
use Rattle.path_lookup.specs.World.{World}
use Rattle.tree_row.specs.Worlds.{SeesBy}
use Rattle.row_rule.specs.declared.cell.Cell.{Cell}
use Rattle.row_rule.specs.declared.view.KeeperView.{KeeperView}
use Rattle.row_rule.specs.Row.{write}
use Rattle.row_plan.specs.Changes.{EncodesChanges, IsPlan}

-- a keeper: which table it keeps, the count, the changes that it has made, oldest first, and the current cells
pub record Held : Type 0 where
  pub table : TableId
  pub capacity : ℕ
  pub count : ℕ
  pub history : List Change
  pub cells : List ℕ

-- the history is one change longer, the count two higher, and only the cells of a plan of the change are set, none of which
-- had that value before
pub record Makes (old : Held) (change : Change) (new : Held) : Type 0 where
  pub table : new.table ≡ old.table
  pub capacity : new.capacity ≡ old.capacity
  pub count : new.count ≡ old.count + 2
  pub history : new.history ≡ old.history ++ change ∷ []
  pub plan : List Cell
  pub planned : IsPlan old.capacity old.cells old.history change plan
  pub cells : new.cells ≡ write old.cells plan
  pub encodes : EncodesChanges old.capacity new.cells new.history

-- a keeper that stopped in the middle of a change
pub record Stopped : Type 0 where
  pub table : TableId
  pub capacity : ℕ
  pub view : KeeperView

-- The change is open. The first `set` cells of its plan are set, or all if there are fewer, and the rest is left.
pub record IsStopped (old : Held) (change : Change) (set : ℕ) (new : Stopped) : Type 0 where
  pub table : new.table ≡ old.table
  pub capacity : new.capacity ≡ old.capacity
  pub history : new.view.history ≡ old.history
  pub plan : List Cell
  pub planned : IsPlan old.capacity old.cells old.history change plan
  pub opened : new.view.pending ≡ Some record { change = change; left = drop set plan }
  pub cells : new.view.cells ≡ write old.cells (take set plan)
  pub encodes : EncodesChanges old.capacity (write old.cells plan) (old.history ++ change ∷ [])

-- what the definition makes of the change after the history
abbrev pub Accepts : Held → Change → Type 0
Accepts h change = IsOk (tree_after h.capacity (h.history ++ change ∷ []))

abbrev pub Refuses : Held → Change → Errno → Type 0
Refuses h change errno = tree_after h.capacity (h.history ++ change ∷ []) ≡ Err errno

-- it refuses the change with this errno, or accepts it, but an allocation failed
abbrev pub Hinders : Held → Change → Errno → Type 0
Hinders h change errno = Refuses h change errno ⊎ ((errno ≡ ENOMEM) × Accepts h change)

abbrev pub SameEntries : Tree → Tree → Type 0
SameEntries t u = (d : ℕ) (c : List ℕ) → find t.entries d c ≡ find u.entries d c

-- a look at these cells sees the tree after the history, and none with other entries
pub record SeesHistory (h : Held) : Type 0 where
  pub world : World
  pub made : tree_after h.capacity h.history ≡ Ok world.tree
  pub seen : SeesBy h.capacity (λ row. row ≡ h.cells) world
  pub only : (w : World) → SeesBy h.capacity (λ row. row ≡ h.cells) w → SameEntries world.tree w.tree
