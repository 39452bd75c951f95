use Rattle.std.proofs.Common.{◌∙◌, ℕ, List, None, sym, subst}
use Rattle.directory_tree.specs.declared.change.Change.{Change}
use Rattle.tree_row.specs.OpeningRow.{opening_row}
use Rattle.row_keeper.specs.inner.Kept.{IsKept}
use Rattle.row_keeper.proofs.KeeperSteps.{kept_first}
use Rattle.row_keeper.proofs.keeper.SteppedKeeper.new.Goals as goal

pub invariant_of-result : goal.invariant_of-result
invariant_of-result c =
    subst (λ (row : ℕ × List ℕ). IsKept row.0 row.1 2 0 c.new-3.result.events None 0) (sym (c.new-2.ensures ∙ c.in-Ok.ensures))
    (subst (λ (events : List Change). IsKept c.args.capacity (opening_row c.args.capacity) 2 0 events None 0) (sym c.new-3.ensures)
    (kept_first c.args.capacity))
