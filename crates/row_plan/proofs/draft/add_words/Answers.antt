use Rattle.std.proofs.Common.{◌≡◌, ℕ, ◌+◌, ◌<◌, ◌∙◌, length, sym, subst, arith}
use mathlib.Core.Logic.{inr}
use Rattle.std.specs.Prelude.{slice_index}
use Rattle.row_index.specs.laws.Sizes.{index_most}
use Rattle.row_plan.specs.Leaves.{with_words}
use Rattle.row_plan.specs.inner.Rows.{Drafts}
use Rattle.row_plan.proofs.FilledCells.{outside, drafts_more}
use Rattle.row_plan.proofs.draft.add_words.Goals as goal

pub overflow_add-base : goal.overflow_add-base
overflow_add-base g c = omega (arith, index_most (g.C.Cells.capacity_of (g.C.Cells.kept c.args.cells.now)))

pub loop-i-preserved : goal.loop-i-preserved
loop-i-preserved g c = record {
  kept = c.add_cell.ensures.kept ∙ c.loop-i.invariant.kept;
  drafts = λ row after whole fits draft same.
      let base = c.args.base in
      let i = c.loop-i.i in
      let words = slice_index c.args.words.now in
      let l : i < length c.args.words.now = omega arith in
      let so_far = c.loop-i.invariant.drafts row after whole fits draft same in
      let whole_now = subst (λ z. g.C.Cells.whole z row) (sym c.loop-i.invariant.kept) whole in
      drafts_more row c.add_cell.new.plan.items after base words i
      (c.in_ok-add_cell.ensures.ok row (with_words after base words i) whole_now (omega arith) so_far
      (outside after base words i (base + i) (inr (omega arith)) ∙ same i l));
}

pub returns-clause-ok : goal.returns-clause-ok
returns-clause-ok g c row after whole fits draft same =
    let e : c.loop-i.i ≡ length c.args.words.now = omega arith in
    subst (λ (n : ℕ). Drafts row c.loop-i.plan.items (with_words after c.args.base (slice_index c.args.words.now) n)) e
    (c.loop-i.invariant.drafts row after whole fits draft same)
