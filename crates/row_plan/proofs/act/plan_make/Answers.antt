use Rattle.std.proofs.Common.{◌+◌, sym, subst}
use Rattle.std.proofs.lemmas.Result.{IfOk-weaker}
use Rattle.change_checks.specs.Act.{kind_of_new}
use Rattle.tree_row.specs.Slots.{Slot}
use Rattle.row_plan.specs.Leaves.{new_slot}
use Rattle.row_plan.specs.inner.Entries.{AddsEntry}
use Rattle.row_plan.proofs.Enactment.{fits_node}
use Rattle.row_plan.proofs.Encoded.{made}
use Rattle.row_plan.proofs.act.plan_make.Goals as goal

pub plan_entry-requires-clause-room : goal.plan_entry-requires-clause-room
plan_entry-requires-clause-room g c =
    let (row, w, whole, enc) = c.requires.known in
    (row, w, whole, enc, (c.requires.tested row w whole enc).room)

pub returns-clause-ok : goal.returns-clause-ok
returns-clause-ok g c = IfOk-weaker c.plan_entry.result _ _ (λ plan plans row w whole enc is.
    let capacity = g.C.Cells.capacity_of (g.C.Cells.kept c.args.cells.now) in
    let kind = kind_of_new c.args.node.now in
    let p = c.args.place.now.directory.slot in
    let component = c.args.place.now.component.now in
    let tested = c.requires.tested row w whole enc in
    let adds : AddsEntry capacity row (new_slot kind c.args.next p component) plan.items =
    subst (λ (own : Slot). AddsEntry capacity row own plan.items)
    (λ i. record {
      kind = c.kind_word.ensures i;
      node = c.args.next;
      parent = c.slot.ensures i;
      component = component;
      text = c.link_text.ensures i;
    }) (plans row w whole enc) in (
      adds.lean,
      made capacity row w enc kind c.args.next w.tree.next (w.tree.next + 1) p component plan.items c.requires.slots.within tested.free
          tested.directory c.requires.fits.0 (fits_node c.args.node.now c.requires.fits.1) (sym is) adds,
      (adds.slot, adds.first, adds.added),
    )) c.plan_entry.ensures.ok
