-- The rule of the row, as a machine keeps it: the same rule that a row shared by threads keeps.
use Rattle.std.specs.Prelude.{ℕ, [], ◌∷◌}
use Rattle.row_rule.specs.declared.view.WalkerView.{WalkerView}
use Rattle.row_rule.specs.declared.view.View.TheVariants.{Keeps, Walks}
use Rattle.row_rule.specs.Row.{KeptBy, count_of}
use Rattle.row_rule.specs.Steps.{newcomer}
use Rattle.tree_row.specs.Rows.{row_length}
use Rattle.row_plan.specs.Changes.{EncodesChanges}
use Rattle.event_machine.specs.Machine.{Stage, Machine}
use Rattle.event_machine.specs.Machine.Stage.{resting, begun, unpublished, policed, walking, checked}

-- what a session's walk knows; nothing outside of a walk
abbrev pub view_of : Stage → WalkerView
view_of resting = newcomer
view_of (begun call) = newcomer
view_of (unpublished call version) = newcomer
view_of (policed p) = newcomer
view_of (walking p w next) = w
view_of (checked p w) = w

-- the rule holds for the keeper together with each session
abbrev pub KeepsRule : Machine → Type 0
KeepsRule m = (s : ℕ) → KeptBy (EncodesChanges m.capacity) (row_length m.capacity) m.keeper (count_of m.keeper ∷ m.keeper.cells)
    (Keeps m.keeper ∷ Walks (view_of (m.sessions s).stage) ∷ [])
