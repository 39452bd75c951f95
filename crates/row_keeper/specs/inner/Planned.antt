-- The outcome of planning a change.
use Rattle.std.specs.Prelude.{◌≡◌, ℕ, [], ◌∷◌, ◌++◌, None, Vec, Result, Ok, Err}
use Rattle.std.specs.declared.alloc.Global.{Global}
use Rattle.names.specs.declared.errors.Errno.{Errno}
use Rattle.directory_tree.specs.declared.change.Change.{Change}
use Rattle.directory_tree.specs.Apply.{tree_after}
use Rattle.row_rule.specs.declared.cell.Cell.{Cell}
use Rattle.row_rule.specs.declared.view.KeeperView.{KeeperView}
use Rattle.row_keeper.specs.KeeperSteps.{MayPlan}

abbrev pub IsPlanned : ℕ → KeeperView → Change → Result (Vec Cell Global) Errno → Type 0
IsPlanned capacity old change (Ok plan) = MayPlan capacity old change plan.items
IsPlanned capacity old change (Err errno) = (old.pending ≡ None) × (tree_after capacity (old.history ++ change ∷ []) ≡ Err errno)
