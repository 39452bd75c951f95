use Rattle.std.proofs.Common.{◌≡◌, ℕ, ◌+◌, ◌/◌, ◌<◌, ◌∙◌, length, sym, subst, arith}
use mathlib.Core.Logic.{inr}
use Rattle.std.specs.Prelude.{slice_set}
use Rattle.row_index.specs.laws.Sizes.{index_most}
use Rattle.row_plan.specs.Leaves.{with_words}
use Rattle.row_plan.specs.inner.Rows.{Drafts}
use Rattle.tree_row.proofs.PackedWords.{packs}
use Rattle.row_plan.proofs.FilledCells.{outside, drafts_more}
use Rattle.tree_row.specs.Slots.{packed}
use Rattle.row_plan.proofs.draft.add_text.Goals as goal

pub returns-in_err-add_cell-clause-packed : goal.returns-in_err-add_cell-clause-packed
returns-in_err-add_cell-clause-packed g c = packs c.args.text.now (λ i. omega (arith, c.type_inv.text i))

pub returns-clause-packed : goal.returns-clause-packed
returns-clause-packed g c = packs c.args.text.now (λ i. omega (arith, c.type_inv.text i))

pub overflow_add-base : goal.overflow_add-base
overflow_add-base g c = omega (arith, index_most (g.C.Cells.capacity_of (g.C.Cells.kept c.args.cells.now)))

pub loop-k-preserved : goal.loop-k-preserved
loop-k-preserved g c = record {
  kept = c.add_cell.ensures.kept ∙ c.loop-k.invariant.kept;
  drafts = λ row after whole fits draft same.
      let base = c.args.base in
      let k = c.loop-k.k in
      let l : k < (length c.args.text.now + 7) / 8 = omega arith in
      let so_far = c.loop-k.invariant.drafts row after whole fits draft same in
      let whole_now = subst (λ z. g.C.Cells.whole z row) (sym c.loop-k.invariant.kept) whole in
      drafts_more row c.add_cell.new.plan.items after base (packed c.args.text.now) k
      (subst (λ (word : ℕ). Drafts row c.add_cell.new.plan.items (slice_set (with_words after base (packed c.args.text.now) k)
      (base + k) word)) c.packed_word.ensures
      (c.in_ok-add_cell.ensures.ok row _ whole_now (omega arith) so_far (outside after base (packed c.args.text.now) k (base + k)
      (inr (omega arith)) ∙ same k l)));
}

pub returns-clause-ok : goal.returns-clause-ok
returns-clause-ok g c row after whole fits draft same =
    let e : c.loop-k.k ≡ (length c.args.text.now + 7) / 8 = omega arith in
    subst (λ (n : ℕ). Drafts row c.loop-k.plan.items (with_words after c.args.base (packed c.args.text.now) n)) e
    (c.loop-k.invariant.drafts row after whole fits draft same)
