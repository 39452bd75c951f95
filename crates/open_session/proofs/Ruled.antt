-- What the rule of the row gives to the sessions of a machine.
use Rattle.std.proofs.Common.{◌≡◌, ℕ, ◌%◌, [], ◌∷◌, sym, ◌∙◌, ap}
use Rattle.tree_row.specs.laws.WorldsAfter.{sound_after}
use Rattle.row_rule.specs.declared.view.WalkerView.{WalkerView}
use Rattle.row_rule.specs.declared.view.View.TheVariants.{Keeps, Walks}
use Rattle.row_rule.specs.Row.{count_of, FitsWalker}
use Rattle.row_rule.specs.Steps.{ending}
use Rattle.row_rule.specs.laws.Rule.{even_encodes}
use Rattle.tree_row.specs.Rows.{row_length}
use Rattle.row_plan.specs.Changes.{EncodesChanges}
use Rattle.event_machine.specs.Machine.{Stage, Machine}
use Rattle.event_machine.specs.Machine.Stage.{resting, begun, unpublished, policed, walking, checked}
use Rattle.event_machine.specs.Rule.{view_of, KeepsRule}
use Rattle.event_machine.specs.laws.Ruled.{fits_at}
use Rattle.open_session.specs.Seen.{SawTree, SeesTree}

-- what was read under an even count that is unchanged agrees with the row as it is
saw : (m : Machine) (w : WalkerView) → FitsWalker m.keeper w →
    (count_of m.keeper % 2 ≡ 0 → EncodesChanges m.capacity m.keeper.cells m.keeper.history)
    → SawTree m.capacity (ending w (count_of m.keeper) m.keeper.history)
saw m w fits encodes (even, same) =
    let tree = encodes (ap (λ (n : ℕ). n % 2) same ∙ even) in
    (m.keeper.cells, tree.0, (fits.still even (sym same)).1, sound_after m.capacity m.keeper.history tree.0 tree.1, tree.2)

sees_at : (m : Machine) (stage : Stage) → FitsWalker m.keeper (view_of stage) →
    (count_of m.keeper % 2 ≡ 0 → EncodesChanges m.capacity m.keeper.cells m.keeper.history)
    → SeesTree m.capacity m.keeper stage
sees_at m resting fits encodes = tt
sees_at m (begun call) fits encodes = tt
sees_at m (unpublished call version) fits encodes = tt
sees_at m (policed p) fits encodes = tt
sees_at m (walking p w next) fits encodes = saw m w fits encodes
sees_at m (checked p w) fits encodes = tt

pub sees : (m : Machine) (s : ℕ) → KeepsRule m → SeesTree m.capacity m.keeper (m.sessions s).stage
sees m s rule =
    sees_at m (m.sessions s).stage (fits_at m.capacity m.keeper (view_of (m.sessions s).stage) (rule s))
    (λ even. even_encodes (EncodesChanges m.capacity) (row_length m.capacity) m.keeper (count_of m.keeper ∷ m.keeper.cells)
    (Keeps m.keeper ∷ Walks (view_of (m.sessions s).stage) ∷ []) (rule s) even)
