use Rattle.std.proofs.Common.{◌∙◌, sym, subst}
use Rattle.row_plan.proofs.Drops.{planned_at, unplanned_at}
use Rattle.row_plan.proofs.draft.planned_word.Goals as goal

pub returns-in-Some-clause-word : goal.returns-in-Some-clause-word
returns-in-Some-clause-word g c row after whole draft =
    sym (planned_at row c.args.plan.now after c.args.place c.in-Some.i record { place = 0; word = 0 } (c.in-Some.ensures.some).0
    (c.in-Some.ensures.some).1 draft)

pub returns-clause-word : goal.returns-clause-word
returns-clause-word g c row after whole draft =
    let may = (g.met.C.Cells.whole_may c.word.new.self row (subst (λ k. g.C.Cells.whole k row) (sym c.word.ensures.kept) whole)).0 in
    sym (c.in-Some-word.ensures.some row may) ∙ sym (unplanned_at row c.args.plan.now after c.args.place c.in_default.ensures.none draft)
