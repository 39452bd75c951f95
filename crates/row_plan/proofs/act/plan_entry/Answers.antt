use Rattle.std.proofs.Common.{◌≡◌, ◌∙◌, ℕ, List, length, sym, subst}
use Rattle.tree_row.specs.Rows.{row_length}
use Rattle.row_rule.specs.Row.{write}
use Rattle.row_plan.specs.Leaves.{AddsToIndex}
use Rattle.row_plan.specs.inner.Rows.{SetsSlot}
use Rattle.row_plan.specs.inner.Entries.{slot_of}
use Rattle.row_plan.specs.inner.Planned.{MayAdd, PlansAddition}
use Rattle.row_plan.proofs.Encoded.{made_vacant}
use Rattle.row_plan.proofs.act.plan_entry.Goals as goal

pub add_to_index-requires-clause-vacant : goal.add_to_index-requires-clause-vacant
add_to_index-requires-clause-vacant g c =
    let (row, w, whole, enc, room) = c.requires.room in
    let own = slot_of c.args.entry.now in
    let s = c.vacant_slot-slot.result in
    let plan = c.in_ok-plan.plan.items in
    let kept = c.vacant_slot-slot.ensures.kept in
    let capacity = g.C.Cells.capacity_of (g.C.Cells.kept c.args.cells.now) in
    let filled = c.in_ok-plan.ensures.ok row (subst (λ k. g.C.Cells.whole k row) (sym kept) whole)
    (subst (λ k. length row ≡ row_length (g.C.Cells.capacity_of k)) (sym kept) enc.tree.long) in
    let first = c.vacant_slot-slot.ensures.free row whole in
    subst (λ k. MayAdd (g.C.Cells.capacity_of k) (g.C.Cells.whole k) plan own.parent own.component)
    (sym (c.fill_slot.ensures.kept ∙ kept)) (
      row,
      whole,
      filled.0,
      made_vacant capacity row w enc own s own.parent own.component (write row plan) first.free.within filled.1,
    )

pub returns-clause-ok : goal.returns-clause-ok
returns-clause-ok g c row w whole enc =
    let own = slot_of c.args.entry.now in
    let s = c.vacant_slot-slot.result in
    let plan = c.in_ok-plan.plan.items in
    let later = c.add_to_index.new.plan.items in
    let kept = c.vacant_slot-slot.ensures.kept in
    let capacity = g.C.Cells.capacity_of (g.C.Cells.kept c.args.cells.now) in
    let filled = c.in_ok-plan.ensures.ok row (subst (λ k. g.C.Cells.whole k row) (sym kept) whole)
    (subst (λ k. length row ≡ row_length (g.C.Cells.capacity_of k)) (sym kept) enc.tree.long) in
    let added = subst (λ k. PlansAddition (g.C.Cells.capacity_of k) (g.C.Cells.whole k) own.parent own.component s plan later)
    (c.fill_slot.ensures.kept ∙ kept) c.in_ok-add_to_index.ensures.ok row whole enc.tree.long filled.0 in record {
      lean = added.0;
      slot = s;
      first = c.vacant_slot-slot.ensures.free row whole;
      sets = subst (SetsSlot row s own) filled.2 filled.1;
      added = subst (λ (z : List ℕ). AddsToIndex capacity own.parent own.component s z (write row later)) filled.2 added.1;
    }
