use Rattle.std.proofs.Common.{◌≡◌, ◌<◌, ◌-◌}
use Rattle.row_index.specs.Edits.{vacated}
use Rattle.tree_row.specs.Rows.{homes_in}
use Rattle.tree_row.specs.Search.{InEncoding}
use Rattle.row_rule.specs.Row.{write}
use Rattle.row_plan.proofs.Vacated.{IsVacating}
use Rattle.row_plan.proofs.vacancy.vacate.Given as goal

abbrev pub invariant-loop-step : goal.invariant-loop-step
invariant-loop-step g l = record {
  kept : g.C.Cells.kept l.cells ≡ g.C.Cells.kept l.initial.cells;
  vacant_within : l.vacant < l.size;
  within : l.place < l.size;
  so_far : InEncoding (g.C.Cells.capacity_of (g.C.Cells.kept l.initial.cells)) (g.C.Cells.whole (g.C.Cells.kept l.initial.cells))
      (λ row. IsVacating (g.C.Cells.capacity_of (g.C.Cells.kept l.initial.cells)) l.base l.size row
      (vacated l.base l.size (homes_in l.size row) (write row l.initial.plan.items) l.initial.vacant l.initial.place (l.size - 1))
      l.plan.items l.vacant l.place (l.size - l.step));
}
