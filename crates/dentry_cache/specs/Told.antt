-- The rule of the table, and what the seat that takes a step learns from it, for each kind of step.
use Rattle.std.specs.Prelude.{◌≡◌, ℕ, ◌+◌, ◌%◌, List, [], ◌∷◌, slice_index, Ok}
use mathlib.Core.List.{IsPrefix}
use Rattle.atomic_table.specs.Table.{State}
use Rattle.directory_tree.specs.declared.change.Change.{Change}
use Rattle.directory_tree.specs.Apply.{tree_after}
use Rattle.path_lookup.specs.World.{World}
use Rattle.tree_row.specs.Rows.{row_length}
use Rattle.tree_row.specs.Worlds.{SeesBy}
use Rattle.tree_row.specs.OpeningRow.{opening_row}
use Rattle.row_rule.specs.declared.cell.Cell.{Cell}
use Rattle.row_rule.specs.declared.view.View.{View}
use Rattle.row_rule.specs.declared.view.View.TheVariants.{Keeps, Walks}
use Rattle.row_rule.specs.Row.{Holds, Agrees, count_of}
use Rattle.row_rule.specs.Steps.{newcomer, beginning, reading, ending, Sees, at_rest, opening, setting, closing, lent_by, meeting}
use Rattle.row_plan.specs.Changes.{EncodesChanges}
use Rattle.dentry_cache.specs.Seats.{Mine, walker_of, keeper_of, walking, keeping}

-- The table's key is the capacity of its row.
abbrev pub KeepsRule : ℕ → State (Unit {0}) View → Type 0
KeepsRule capacity s = Holds (EncodesChanges capacity) (row_length capacity) s.words s.views

abbrev pub first_view : ℕ → View
first_view capacity = Keeps (at_rest [] (opening_row capacity))

-- some row that encodes the tree after these changes agrees with all that was read
pub record SeesAfter (capacity : ℕ) (reads : List Cell) (changes : List Change) : Type 0 where
  pub world : World
  pub made : tree_after capacity changes ≡ Ok world.tree
  pub seen : SeesBy capacity (Agrees reads) world

-- a walker enters, reads the count, reads a cell, and reads the count again
abbrev pub HasEntered : Mine → Type 0
HasEntered after = after ≡ walking newcomer

abbrev pub HasBegun : Mine → ℕ → Mine → Type 0
HasBegun before count after =
    (seen : List Change) × (after ≡ walking (beginning (walker_of before.0) count seen)) × Sees (walker_of before.0) count seen

abbrev pub HasRead : ℕ → Mine → ℕ → Mine → Type 0
HasRead word before found after =
    (place : ℕ) → word ≡ place + 1 → after ≡ walking (reading (walker_of before.0) record { place = place; word = found })

-- if the count is the even one that was read first, no change was made in between
abbrev pub HasEnded : ℕ → Mine → ℕ → Mine → Type 0
HasEnded capacity before count after =
    (seen : List Change) × (after ≡ walking (ending (walker_of before.0) count seen)) × Sees (walker_of before.0) count seen
    × (count ≡ (walker_of before.0).noted → count % 2 ≡ 0 → ((walker_of before.0).seen ≡ seen) × SeesAfter capacity
    (walker_of before.0).reads seen)

-- the keeper reads a word, opens a change, sets a cell, and closes the change
abbrev pub HasLooked : ℕ → Mine → ℕ → Mine → Type 0
HasLooked word before found after =
    (after ≡ before) × (found ≡ slice_index (count_of (keeper_of before.0) ∷ (keeper_of before.0).cells) word)

abbrev pub HasOpened : Change → List Cell → Mine → Mine → Type 0
HasOpened change plan before after = after ≡ keeping (opening (keeper_of before.0) change plan)

abbrev pub HasSet : ℕ → ℕ → Mine → Mine → Type 0
HasSet word to before after =
    (place : ℕ) → word ≡ place + 1 → after ≡ keeping (setting (keeper_of before.0) record { place = place; word = to })

abbrev pub HasClosed : Mine → Mine → Type 0
HasClosed before after = after ≡ keeping (closing (keeper_of before.0))

-- a meeting: the keeper lends a walker's seat, takes in the walker's own, and learns what that one had seen
abbrev pub lent_view : View → View
lent_view keeper = Walks (lent_by (keeper_of keeper))

abbrev pub met_view : View → View → View
met_view keeper walker = Keeps (meeting (keeper_of keeper) (walker_of walker).seen)

abbrev pub IsTold : Mine → Mine → Type 0
IsTold before after =
    (after ≡ keeping (meeting (keeper_of before.0) [])) × IsPrefix (keeper_of before.0).met (keeper_of before.0).history
