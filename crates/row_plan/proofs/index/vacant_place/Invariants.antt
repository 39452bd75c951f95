use Rattle.std.proofs.Common.{◌≡◌, ◌≤◌, ◌<◌, ◌+◌, ℕ, List}
use Rattle.row_index.specs.Places.{around}
use Rattle.row_index.specs.Edits.{index_at}
use Rattle.row_plan.specs.inner.Rows.{Drafts}
use Rattle.row_plan.proofs.index.vacant_place.Given as goal

abbrev pub invariant-loop-step : goal.invariant-loop-step
invariant-loop-step g l = record {
  kept : g.C.Cells.kept l.cells ≡ g.C.Cells.kept l.initial.cells;
  at : l.step < l.search.size → l.place ≡ around l.search.size (l.search.home + l.step);
  within : l.place < l.search.size;
  taken : (row after : List ℕ) → g.C.Cells.whole (g.C.Cells.kept l.initial.cells) row → Drafts row l.plan after
      → (i : ℕ) → i < l.step → 2 ≤ index_at after l.search.base (around l.search.size (l.search.home + i));
}
