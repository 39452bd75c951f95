-- What contracts see of a walker and of an attempt: all that opens concurrently with the keeper cite of this crate.
use Rattle.std.specs.Prelude.{ℕ, ◌*◌, List, [], length}
use Rattle.atomic_table.specs.Seated.{TableId}
use Rattle.directory_tree.specs.declared.change.Change.{Change}
use Rattle.row_rule.specs.declared.view.WalkerView.{WalkerView}

-- a walker or an attempt, and what it knows
pub record Walk : Type 0 where
  pub table : TableId
  pub capacity : ℕ
  pub view : WalkerView

-- what no reading of cells changes
abbrev pub unread : Walk → Walk
unread a =
    record {
      table = a.table;
      capacity = a.capacity;
      view = record { seen = a.view.seen; count_reads = a.view.count_reads; noted = a.view.noted; last = a.view.last; reads = [] };
    }

-- a walker that has just met the keeper of this history
abbrev pub met_at : List Change → WalkerView
met_at history = record { seen = history; count_reads = 0; noted = 2 * length history; last = 2 * length history; reads = [] }
