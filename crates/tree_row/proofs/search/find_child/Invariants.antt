use Rattle.std.proofs.Common.{◌≡◌, ◌<◌, ◌+◌}
use Rattle.row_index.specs.Places.{around}
use Rattle.row_index.specs.Hashes.{home}
use Rattle.tree_row.specs.Worlds.{Fewer}
use Rattle.tree_row.proofs.IndexSearch.{NoneBefore}
use Rattle.tree_row.proofs.search.find_child.Given as goal

abbrev pub invariant-loop-step : goal.invariant-loop-step
invariant-loop-step g l = record {
  kept : g.C.Cells.kept l.cells ≡ g.C.Cells.kept l.initial.cells;
  fewer : Fewer (g.C.Cells.may l.initial.cells) (g.C.Cells.may l.cells);
  at : l.step < l.size → l.place ≡ around l.size (home l.size l.directory l.component + l.step);
  within : l.place < l.size;
  none : NoneBefore (g.C.Cells.capacity_of (g.C.Cells.kept l.initial.cells)) (g.C.Cells.may l.cells) l.directory l.component l.step;
}
