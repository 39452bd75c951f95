use Rattle.std.proofs.Common.{◌≡◌, ℕ, ◌+◌, ◌*◌, ◌/◌, ◌%◌, ◌<◌, List, length}
use Rattle.std.specs.Prelude.{slice_index}
use Rattle.std.specs.Int.{byte_at}
use Rattle.tree_row.specs.Worlds.{Fewer}
use Rattle.tree_row.proofs.text.read_text.Given as goal

abbrev pub invariant-loop-k : goal.invariant-loop-k
invariant-loop-k g l = record {
  kept : g.C.Cells.kept l.cells ≡ g.C.Cells.kept l.initial.cells;
  fewer : Fewer (g.C.Cells.may l.initial.cells) (g.C.Cells.may l.cells);
  room : length l.room ≡ length l.initial.room;
  text : (row : List ℕ) → g.C.Cells.may l.cells row → (i : ℕ) → i < 8 * l.k → i < l.count
      → byte_at (i % 8) (slice_index row (l.base + i / 8)) ≡ slice_index l.room i;
}
