use Rattle.std.proofs.Common.{◌≡◌, ◌*◌, ◌+◌, ◌∙◌, ℕ, [], sym, ap, subst, arith}
use Rattle.std.specs.Prelude.{slice_index}
use Rattle.std.proofs.lemmas.Result.{IfOk-weaker}
use Rattle.directory_tree.specs.declared.node.NodeKind.TheVariants.{File}
use Rattle.directory_tree.specs.Spots.{node_at}
use Rattle.tree_row.specs.Slots.{Slot, slot_at}
use Rattle.row_plan.specs.Leaves.{new_slot}
use Rattle.row_plan.specs.inner.Acts.{HasRoom}
use Rattle.row_plan.specs.inner.Entries.{AddsEntry, PlansEntry}
use Rattle.row_plan.proofs.Enactment.{node_is}
use Rattle.row_plan.proofs.Encoded.{made}
use Rattle.row_plan.proofs.act.plan_link.Goals as goal

pub plan_entry-requires-clause-room : goal.plan_entry-requires-clause-room
plan_entry-requires-clause-room g c =
    let (row, w, whole, enc) = c.requires.known in
    subst (λ k. HasRoom (g.C.Cells.capacity_of k) (g.C.Cells.whole k)) (sym c.slot_word.ensures.kept)
    (row, w, whole, enc, (c.requires.tested row w whole enc).0.room)

pub returns-clause-ok : goal.returns-clause-ok
returns-clause-ok g c = IfOk-weaker c.plan_entry.result _ _ (λ plan plans next row w whole enc is.
    let kept = c.slot_word.ensures.kept in
    let capacity = g.C.Cells.capacity_of (g.C.Cells.kept c.args.cells.now) in
    let file = c.args.file.slot in
    let p = c.args.place.now.directory.slot in
    let component = c.args.place.now.component.now in
    let tested = (c.requires.tested row w whole enc).0 in
    let reads = c.in-Ok.ensures.ok row (g.met.C.Cells.whole_may c.slot_word.new.cells row (subst (λ k. g.C.Cells.whole k row) (sym kept)
    whole)).0 in
    let number : c.in-Ok.node ≡ (slot_at row file).node = sym reads ∙ ap (λ (z : ℕ). slice_index row (164 * z + 1)) c.slot.ensures in
    let own : Slot =
    record { kind = 2; node = c.in-Ok.node; parent = c.slot-2.result; component = component; text = [] } in
    let added = subst (λ k. PlansEntry (g.C.Cells.capacity_of k) (g.C.Cells.whole k) own plan.items) kept plans row w whole enc in
    let adds : AddsEntry capacity row (new_slot File (slot_at row file).node p component) plan.items =
    subst (λ (own : Slot). AddsEntry capacity row own plan.items)
    (λ i. record { kind = 2; node = number i; parent = c.slot-2.ensures i; component = component; text = [] }) added in (
      adds.lean,
      made capacity row w enc File (slot_at row file).node (node_at (w.named file)) w.tree.next p component plan.items
          c.requires.slots.1.within tested.free tested.directory c.requires.fits (omega arith)
          (sym (node_is capacity row w enc file)) adds,
      (adds.slot, adds.first, adds.added),
    )) c.plan_entry.ensures.ok
