-- What holds of the parts of a keeper and of a walker.
use Rattle.std.specs.Prelude.{◌≡◌, ℕ, ◌+◌, ◌<◌, ◌≤◌, List, [], ◌∷◌, ◌++◌, length, None, Ok}
use Rattle.atomic_table.specs.Seated.{TableId}
use Rattle.atomic_table.specs.declared.shared.Seat.{Seat}
use Rattle.directory_tree.specs.declared.change.Change.{Change}
use Rattle.directory_tree.specs.Tree.{Tree}
use Rattle.directory_tree.specs.Apply.{tree_after, most_changes}
use Rattle.path_lookup.specs.World.{World}
use Rattle.tree_row.specs.Rows.{Encodes, row_length}
use Rattle.tree_row.specs.Worlds.{EncodesWorld}
use Rattle.row_rule.specs.declared.cell.Cell.{Cell}
use Rattle.row_rule.specs.declared.view.View.{View}
use Rattle.row_rule.specs.Row.{write, count_of}
use Rattle.row_plan.specs.Changes.{EncodesChanges, IsPlan}
use Rattle.dentry_cache.specs.Seats.{keeper_of, walker_of, IsKeeping, IsWalking}
use Rattle.dentry_cache.specs.Models.{Held, Stopped}
use Rattle.dentry_cache.specs.Walks.{Walk}

abbrev pub RowSeat : Type 0
RowSeat = Seat (Unit {0}) View

abbrev pub held : RowSeat → ℕ → Held
held seat capacity = record {
  table = seat.table_id;
  capacity = capacity;
  count = count_of (keeper_of seat.me.0);
  history =
      (keeper_of seat.me.0).history;
  cells = (keeper_of seat.me.0).cells;
}

abbrev pub walk : RowSeat → ℕ → Walk
walk seat capacity = record { table = seat.table_id; capacity = capacity; view = walker_of seat.me.0 }

abbrev pub stopped_at : RowSeat → ℕ → Stopped
stopped_at seat capacity = record { table = seat.table_id; capacity = capacity; view = keeper_of seat.me.0 }

-- the row's table: a word for the count and one for each cell
pub record IsRowTable (table : TableId) (key capacity : ℕ) : Type 0 where
  pub words : table.words ≡ row_length capacity + 1
  pub key_is : key ≡ capacity
  pub small : capacity ≤ 16384

-- the cells encode the tree after the history, and `next` is the next node's number
pub record IsKept (h : Held) (next version : ℕ) : Type 0 where
  pub tree : Tree
  pub made : tree_after h.capacity h.history ≡ Ok tree
  pub encodes : Encodes h.capacity h.cells tree
  pub next_is : next ≡ tree.next
  pub next_low : next ≤ version + 2
  pub version_is : version ≡ length h.history
  pub few : version ≤ most_changes

pub record KeeperKnows (table : TableId) (key : ℕ) (seat : RowSeat) (capacity next version : ℕ) : Type 0 where
  pub own : seat.table_id ≡ table
  pub at : IsRowTable table key capacity
  pub role : IsKeeping seat.me
  pub shut : (keeper_of seat.me.0).pending ≡ None
  pub kept : IsKept (held seat capacity) next version

pub record WalkerKnows (table : TableId) (key : ℕ) (seat : RowSeat) (capacity : ℕ) : Type 0 where
  pub own : seat.table_id ≡ table
  pub at : IsRowTable table key capacity
  pub role : IsWalking seat.me

-- one more change can be counted: the tree after the history, as the cells encode it, with the number of its next node
pub record Countable (h : Held) (next : ℕ) : Type 0 where
  pub world : World
  pub made : tree_after h.capacity h.history ≡ Ok world.tree
  pub stands : EncodesWorld h.capacity h.cells world
  pub next_is : world.tree.next ≡ next
  pub few : length h.history < most_changes

-- a plan of the change, and what the row encodes once it is set
abbrev pub IsPlanned : Held → Change → List Cell → Type 0
IsPlanned h change plan = IsPlan h.capacity h.cells h.history change plan × EncodesChanges h.capacity (write h.cells plan)
    (h.history ++ change ∷ [])
