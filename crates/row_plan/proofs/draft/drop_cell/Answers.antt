use Rattle.std.proofs.Common.{◌∙◌, List, sym, ap, subst}
use Rattle.std.specs.Prelude.{slice_index, slice_set}
use Rattle.std.specs.List.{remove}
use Rattle.row_rule.specs.declared.cell.Cell.{Cell}
use Rattle.row_plan.specs.inner.Rows.{Drafts}
use Rattle.row_plan.proofs.Drops.{drops, drops_none}
use Rattle.row_plan.proofs.draft.drop_cell.Goals as goal

pub returns-in-Some : goal.returns-in-Some
returns-in-Some c row after draft =
    let e = c.deref.ensures.value in
    subst (λ (p : List Cell). Drafts row p (slice_set after c.args.place (slice_index row c.args.place)))
    (ap (λ (p : List Cell). remove p c.in-Some.i) e ∙ sym c.remove.ensures.items)
    (drops row c.deref.result.now after c.args.place c.in-Some.i record { place = 0; word = 0 } (c.in-Some.ensures.some).0
    (c.in-Some.ensures.some).1 (subst (λ (p : List Cell). Drafts row p after) (sym e) draft))

pub returns-in_default : goal.returns-in_default
returns-in_default c row after draft =
    let e = c.deref.ensures.value in
    subst (λ (p : List Cell). Drafts row p (slice_set after c.args.place (slice_index row c.args.place))) e
    (drops_none row c.deref.result.now after c.args.place c.in_default.ensures.none
    (subst (λ (p : List Cell). Drafts row p after) (sym e) draft))
