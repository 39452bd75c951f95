use Rattle.std.proofs.Common.{◌≡◌, ◌+◌, ◌<◌, ℕ, List}
use Rattle.tree_row.specs.Slots.{slot_at, IsFree}
use Rattle.tree_row.specs.Worlds.{Fewer}
use Rattle.tree_row.proofs.question.free_slot.Given as goal

abbrev pub invariant-loop-slot : goal.invariant-loop-slot
invariant-loop-slot g l = record {
  kept : g.C.Cells.kept l.cells ≡ g.C.Cells.kept l.initial.cells;
  fewer : Fewer (g.C.Cells.may l.initial.cells) (g.C.Cells.may l.cells);
  none : (row : List ℕ) → g.C.Cells.may l.cells row → (s : ℕ) → s < l.slot →
      ¬ (IsFree (g.C.Cells.capacity_of (g.C.Cells.kept l.initial.cells) + 1) (slot_at row) s);
}
