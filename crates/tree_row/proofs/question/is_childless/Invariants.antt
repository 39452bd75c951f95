use Rattle.std.proofs.Common.{◌≡◌}
use Rattle.tree_row.specs.Worlds.{Fewer}
use Rattle.tree_row.proofs.SeenEntries.{NoEntryBelow}
use Rattle.tree_row.proofs.question.is_childless.Given as goal

abbrev pub invariant-loop-slot : goal.invariant-loop-slot
invariant-loop-slot g l = record {
  kept : g.C.Cells.kept l.cells ≡ g.C.Cells.kept l.initial.cells;
  fewer : Fewer (g.C.Cells.may l.initial.cells) (g.C.Cells.may l.cells);
  none : NoEntryBelow (g.C.Cells.capacity_of (g.C.Cells.kept l.initial.cells)) (g.C.Cells.may l.cells) l.directory l.slot;
}
