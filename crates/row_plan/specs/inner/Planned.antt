-- What a plan leaves among the words of an index.
use Rattle.std.specs.Prelude.{◌≡◌, ◌⊎◌, ℕ, ◌+◌, ◌^◌, ◌<◌, ◌≤◌, List, length, Option, Some, None}
use Rattle.row_index.specs.Places.{around, index_length}
use Rattle.row_index.specs.Hashes.{home}
use Rattle.row_index.specs.Index.{IsFound}
use Rattle.row_index.specs.Edits.{index_at}
use Rattle.tree_row.specs.Slots.{slot_at, IsUsed}
use Rattle.tree_row.specs.Rows.{index_base, row_length}
use Rattle.tree_row.specs.Search.{InEncoding}
use Rattle.row_rule.specs.declared.cell.Cell.{Cell}
use Rattle.row_rule.specs.Row.{write}
use Rattle.row_plan.specs.Plan.{IsLean}
use Rattle.row_plan.specs.Leaves.{AddsToIndex, RemovesAny}
use Rattle.row_plan.specs.declared.index.Search.{Search}

-- the search for a component in a directory
abbrev pub search_for : ℕ → ℕ → List ℕ → Search
search_for capacity directory component = record {
  base = index_base capacity;
  size = index_length capacity;
  home = home (index_length capacity) directory component;
}

-- the words of a search are among those of the row
pub record IsInRow (capacity : ℕ) (search : Search) : Type 0 where
  pub within : search.base + search.size ≤ row_length capacity
  pub small : search.base + search.size < 2 ^ 32
  pub power : (k : ℕ) × (search.size ≡ 2 ^ k)
  pub home : search.home < search.size

-- one of the words on the way from the home of a component in a directory is 0 or 1
abbrev pub HasVacancy : ℕ → List ℕ → ℕ → List ℕ → Type 0
HasVacancy capacity row directory component =
    ¬ ((i : ℕ) → i < index_length capacity →
    2 ≤ index_at row (index_base capacity) (around (index_length capacity) (home (index_length capacity) directory component + i)))

-- a search from there finds the word of a slot
abbrev pub Finds : ℕ → List ℕ → ℕ → List ℕ → ℕ → Type 0
Finds capacity row directory component s =
    IsFound (index_length capacity) (index_at row (index_base capacity)) (home (index_length capacity) directory component) s

-- the same of a slot, if one is given
abbrev pub FindsAny : ℕ → List ℕ → ℕ → List ℕ → Option ℕ → Type 0
FindsAny capacity row directory component None = Unit {0}
FindsAny capacity row directory component (Some s) = Finds capacity row directory component s

-- each word of the index is 0, is 1, or names a slot that is used in the row `before`
abbrev pub NamesUsed : ℕ → List ℕ → List ℕ → Type 0
NamesUsed capacity before row = (p : ℕ) → p < index_length capacity → (index_at row (index_base capacity) p ≤ 1)
    ⊎ ((x : ℕ) × IsUsed (capacity + 1) (slot_at before) x × (index_at row (index_base capacity) p ≡ x + 1))

-- the plan may be continued by an addition to the index: it leaves a word vacant on the way from the home of a component
abbrev pub MayAdd : ℕ → (List ℕ → Type 0) → List Cell → ℕ → List ℕ → Type 0
MayAdd capacity whole plan directory component =
    (row : List ℕ) × whole row × IsLean row plan × HasVacancy capacity (write row plan) directory component

-- by a removal of a slot, if one is given: the slot is found, and each word names a slot in use
abbrev pub MayRemove : ℕ → (List ℕ → Type 0) → List Cell → ℕ → List ℕ → Option ℕ → Type 0
MayRemove capacity whole plan directory component s = InEncoding capacity whole (λ row. IsLean row plan
    × FindsAny capacity (write row plan) directory component s × NamesUsed capacity row (write row plan))

-- the later plan also adds a slot to the index
abbrev pub PlansAddition : ℕ → (List ℕ → Type 0) → ℕ → List ℕ → ℕ → List Cell → List Cell → Type 0
PlansAddition capacity whole directory component s plan later = (row : List ℕ) → whole row → length row ≡ row_length capacity →
    IsLean row plan → IsLean row later × AddsToIndex capacity directory component s (write row plan) (write row later)

-- the later plan also removes a slot from the index, if one is given
abbrev pub PlansRemoval : ℕ → (List ℕ → Type 0) → Option ℕ → List Cell → List Cell → Type 0
PlansRemoval capacity whole s plan later =
    InEncoding capacity whole (λ row. IsLean row later × RemovesAny capacity row s (write row plan) (write row later))
