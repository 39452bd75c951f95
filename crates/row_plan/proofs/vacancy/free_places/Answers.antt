use Rattle.std.proofs.Common.{◌≡◌, ◌-◌, ◌+◌, ◌∙◌, ℕ, List, subst, sym, ap, arith}
use Rattle.row_rule.specs.declared.cell.Cell.{Cell}
use Rattle.row_index.specs.Edits.{index_at, with_word, swept}
use Rattle.row_index.proofs.Edited.{swept_zero, swept_other, swept_more}
use Rattle.row_plan.specs.inner.Rows.{Drafts}
use Rattle.row_plan.proofs.vacancy.free_places.Goals as goal

pub returns-then-planned_word-ne-DELETED_WORD-clause-ok : goal.returns-then-planned_word-ne-DELETED_WORD-clause-ok
returns-then-planned_word-ne-DELETED_WORD-clause-ok g c row after whole fits draft =
    let base = c.args.base in
    let size = c.args.size in
    let marked = with_word after base c.args.place 0 in
    let whole_set = subst (λ k. g.C.Cells.whole k row) (sym c.set_word.ensures.kept) whole in
    let whole_now = subst (λ k. g.C.Cells.whole k row) (sym c.loop-step.invariant.kept) whole_set in
    let so_far = c.loop-step.invariant.rest row marked whole_set fits (c.in_ok-set_word.ensures.ok row after whole (omega arith) draft) in
    let now = so_far.0 in
    let word : c.planned_word.result ≡ index_at now base c.loop-step.place =
    c.planned_word.ensures.word row now whole_now (subst (λ (p : List Cell). Drafts row p now) (sym c.deref.ensures.value) so_far.1)
    in
    subst (Drafts row c.loop-step.plan.items)
    (sym (swept_other base size c.loop-step.place (size - c.loop-step.step) now
    (λ e. c.if-planned_word-ne-DELETED_WORD.true (word ∙ e)))
    ∙ so_far.2 ∙ ap (λ (z : ℕ). swept base size marked z size) c.place_before-place.ensures.before)
    so_far.1

pub loop-step-preserved : goal.loop-step-preserved
loop-step-preserved g c =
    let base = c.args.base in
    let size = c.args.size in
    let place = c.loop-step.place in
    let kept = c.planned_word.ensures.kept ∙ c.loop-step.invariant.kept in
    record {
      kept = c.set_word-in-loop-step.ensures.kept ∙ kept;
      within = c.place_before-place-in-loop-step.ensures.within;
      rest = λ row after whole fits draft.
          let whole_one = subst (λ k. g.C.Cells.whole k row) (sym c.loop-step.invariant.kept) whole in
          let whole_two = subst (λ k. g.C.Cells.whole k row) (sym kept) whole in
          let so_far = c.loop-step.invariant.rest row after whole fits draft in
          let now = so_far.0 in
          let word : c.planned_word.result ≡ index_at now base place =
          c.planned_word.ensures.word row now whole_one
          (subst (λ (p : List Cell). Drafts row p now) (sym c.deref.ensures.value) so_far.1)
          in
          let one : index_at now base place ≡ 1 = sym word ∙ c.if-planned_word-ne-DELETED_WORD.false in (
            with_word now base place 0,
            c.in_ok-set_word-2.ensures.ok row now whole_two (let w = c.loop-step.invariant.within in omega arith) so_far.1,
            ap (λ (z : ℕ). swept base size (with_word now base place 0) z (size - (c.loop-step.step + 1)))
                c.place_before-place-in-loop-step.ensures.before
                ∙ sym (swept_more base size place (size - c.loop-step.step) (size - (c.loop-step.step + 1)) now (omega arith) one)
                ∙ so_far.2,
          );
    }

pub returns-clause-ok : goal.returns-clause-ok
returns-clause-ok g c row after whole fits draft =
    let base = c.args.base in
    let size = c.args.size in
    let marked = with_word after base c.args.place 0 in
    let whole_set = subst (λ k. g.C.Cells.whole k row) (sym c.set_word.ensures.kept) whole in
    let so_far = c.loop-step.invariant.rest row marked whole_set fits (c.in_ok-set_word.ensures.ok row after whole (omega arith) draft) in
    subst (Drafts row c.loop-step.plan.items)
    (sym (swept_zero base size c.loop-step.place (size - c.loop-step.step) so_far.0 (omega arith))
    ∙ so_far.2 ∙ ap (λ (z : ℕ). swept base size marked z size) c.place_before-place.ensures.before)
    so_far.1
