-- The steps of a keeper, in terms of its view: the cases of the machine's legal steps (`Moves`) that are the keeper's.
use Rattle.std.specs.Prelude.{◌≡◌, ℕ, List, [], ◌∷◌, ◌++◌, length, Some, None, Result, Ok, Err, IsOk}
use Rattle.names.specs.declared.errors.Errno.{Errno}
use Rattle.directory_tree.specs.declared.change.Change.{Change}
use Rattle.directory_tree.specs.Apply.{tree_after}
use Rattle.row_rule.specs.declared.cell.Cell.{Cell}
use Rattle.row_rule.specs.declared.view.KeeperView.{KeeperView}
use Rattle.row_rule.specs.Row.{left_of, write}
use Rattle.row_rule.specs.Steps.{opening, setting, closing}
use Rattle.row_plan.specs.Changes.{EncodesChanges, IsPlan}

-- At rest, a change may be opened with these cells: they are its plan, and once they are written the row encodes the changes and
-- this one.
abbrev pub MayPlan : ℕ → KeeperView → Change → List Cell → Type 0
MayPlan capacity old change plan =
    (old.pending ≡ None) × IsPlan capacity old.cells old.history change plan × EncodesChanges capacity (write old.cells plan)
    (old.history ++ change ∷ [])

-- the change was opened with such cells
abbrev pub IsOpened : ℕ → KeeperView → Change → KeeperView → Type 0
IsOpened capacity old change new = (plan : List Cell) × MayPlan capacity old change plan × (new ≡ opening old change plan)

abbrev pub MayOpen : ℕ → KeeperView → Change → Type 0
MayOpen capacity old change = (new : KeeperView) × IsOpened capacity old change new

-- at rest, and the definition accepts the change
abbrev pub Accepts : ℕ → KeeperView → Change → Type 0
Accepts capacity old change = (old.pending ≡ None) × IsOk (tree_after capacity (old.history ++ change ∷ []))

-- the next cell of the open change was set
abbrev pub IsSet : KeeperView → KeeperView → Type 0
IsSet old new =
    (change : Change) × (cell : Cell) × (left : List Cell) × (old.pending ≡ Some record { change = change; left = cell ∷ left })
    × (new ≡ setting old cell)

abbrev pub MaySet : KeeperView → Type 0
MaySet old = (new : KeeperView) × IsSet old new

-- the open change, with no cell left to set, was closed
abbrev pub IsClosed : KeeperView → KeeperView → Type 0
IsClosed old new = (change : Change) × (old.pending ≡ Some record { change = change; left = [] }) × (new ≡ closing old)

abbrev pub MayClose : KeeperView → Type 0
MayClose old = (new : KeeperView) × IsClosed old new

-- At rest, a change may be opened and then has `count` cells to set; or the definition refuses it with this error number, which may
-- be the one for too many changes.
abbrev pub IsTested : ℕ → KeeperView → Change → Result ℕ Errno → Type 0
IsTested capacity old change (Ok count) = MayOpen capacity old change × ((new : KeeperView) → IsOpened capacity old change new →
    length (left_of new.pending) ≡ count)
IsTested capacity old change (Err errno) = (old.pending ≡ None) × (tree_after capacity (old.history ++ change ∷ []) ≡ Err errno)
