use Rattle.std.proofs.Common.{◌≡◌, length, subst, arith, get_or-set_same}
use Rattle.std.proofs.lemmas.Result.{on_ok_weaker}
use Rattle.std.specs.Prelude.{slice_index, slice_set}
use Rattle.row_plan.specs.inner.Rows.{Drafts}
use Rattle.row_plan.proofs.Drops.{set_again, length_drafted}
use Rattle.row_plan.proofs.draft.set_word.Goals as goal

pub returns-clause-ok : goal.returns-clause-ok
returns-clause-ok g c = on_ok_weaker c.add_cell.result (λ adds row after whole within draft.
    let r = slice_index row c.args.place in
    let long : length after ≡ length row = length_drafted row c.args.plan.now.items after draft in
    subst (Drafts row c.add_cell.new.plan.items) (set_again after c.args.place r c.args.word)
    (adds row (slice_set after c.args.place r) whole within (c.drop_cell.ensures row after draft)
    (get_or-set_same after c.args.place r 0 (omega arith)))
    ) c.add_cell.ensures.ok
