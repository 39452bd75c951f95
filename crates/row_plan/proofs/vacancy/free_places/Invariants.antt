use Rattle.std.proofs.Common.{◌≡◌, ◌≤◌, ◌<◌, ◌+◌, ◌-◌, ℕ, List, length}
use Rattle.row_index.specs.Edits.{swept}
use Rattle.row_plan.specs.inner.Rows.{Drafts}
use Rattle.row_plan.proofs.vacancy.free_places.Given as goal

abbrev pub invariant-loop-step : goal.invariant-loop-step
invariant-loop-step g l = record {
  kept : g.C.Cells.kept l.cells ≡ g.C.Cells.kept l.initial.cells;
  within : l.place < l.size;
  rest : (row after : List ℕ) → g.C.Cells.whole (g.C.Cells.kept l.initial.cells) row → l.base + l.size ≤ length row
      → Drafts row l.initial.plan.items after → (now : List ℕ) × Drafts row l.plan.items now
      × (swept l.base l.size now l.place (l.size - l.step) ≡ swept l.base l.size after l.initial.place l.size);
}
