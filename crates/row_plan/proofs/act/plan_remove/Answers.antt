use Rattle.std.proofs.Common.{◌≡◌, ◌∙◌, ℕ, List, sym, ap, subst, subst₂}
use Rattle.std.specs.Prelude.{Some}
use Rattle.row_rule.specs.Row.{write}
use Rattle.row_plan.specs.Leaves.{without_slot, RemovesFromIndex}
use Rattle.row_plan.specs.inner.Rows.{FreesSlot}
use Rattle.row_plan.specs.inner.Acts.{IsTreeRead}
use Rattle.row_plan.specs.inner.Planned.{Finds, MayRemove, PlansRemoval}
use Rattle.row_plan.proofs.Enactment.{child_used}
use Rattle.row_plan.proofs.Encoded.{gone, gone_found}
use Rattle.row_plan.proofs.act.plan_remove.Goals as goal

pub remove_from_index-requires-clause-read : goal.remove_from_index-requires-clause-read
remove_from_index-requires-clause-read g c =
    subst (λ k. IsTreeRead (g.C.Cells.capacity_of k) (g.C.Cells.whole k)) (sym c.clear_slot.ensures.kept) c.requires.known

pub remove_from_index-requires-clause-planned : goal.remove_from_index-requires-clause-planned
remove_from_index-requires-clause-planned g c =
    let capacity : ℕ = g.C.Cells.capacity_of (g.C.Cells.kept c.args.cells.now) in
    let component : List ℕ = c.args.place.now.component.now in
    let d : ℕ = c.args.place.now.directory.slot in
    let r : ℕ = c.args.entry.slot in
    subst (λ k. MayRemove (g.C.Cells.capacity_of k) (g.C.Cells.whole k) c.in_ok-plan.plan.items c.slot.result component
    (Some c.slot-slot.result)) (sym c.clear_slot.ensures.kept)
    (λ row w whole enc.
    let tested = c.requires.tested row w whole enc in
    let directory = c.requires.slots.0 in
    let known = c.requires.slots.1 in
    let between : List ℕ = write row c.in_ok-plan.plan.items in
    let cleared = c.in_ok-plan.ensures.ok row whole enc.tree.long in
    let frees : FreesSlot row r between = subst (λ (z : ℕ). FreesSlot row z between) c.slot-slot.ensures cleared.1 in
    let used = child_used capacity row w enc d r component known.within (known.filled row w whole enc) tested.there in
    let found = gone_found capacity row w enc d r component between directory.within (directory.filled row w whole enc) used tested.there
    frees in (
      cleared.0,
      subst₂ (λ (z t : ℕ). Finds capacity between z component t) (sym c.slot.ensures) (sym c.slot-slot.ensures) found.0,
      found.1,
    ))

pub returns-clause-ok : goal.returns-clause-ok
returns-clause-ok g c next row w whole enc is =
    let capacity : ℕ = g.C.Cells.capacity_of (g.C.Cells.kept c.args.cells.now) in
    let component : List ℕ = c.args.place.now.component.now in
    let d : ℕ = c.args.place.now.directory.slot in
    let r : ℕ = c.args.entry.slot in
    let tested = c.requires.tested row w whole enc in
    let known = c.requires.slots.1 in
    let cleared = c.in_ok-plan.ensures.ok row whole enc.tree.long in
    let between : List ℕ = write row c.in_ok-plan.plan.items in
    let after : List ℕ = write row c.remove_from_index.new.plan.items in
    let frees : FreesSlot row r between = subst (λ (z : ℕ). FreesSlot row z between) c.slot-slot.ensures cleared.1 in
    let freed : between ≡ without_slot row r = cleared.2 ∙ ap (without_slot row) c.slot-slot.ensures in
    let removed = subst (λ k. PlansRemoval (g.C.Cells.capacity_of k) (g.C.Cells.whole k) (Some c.slot-slot.result)
    c.in_ok-plan.plan.items c.remove_from_index.new.plan.items) c.clear_slot.ensures.kept c.in_ok-remove_from_index.ensures.ok
    row w whole enc in
    let left : RemovesFromIndex capacity row r between after =
    subst (λ (z : ℕ). RemovesFromIndex capacity row z between after) c.slot-slot.ensures removed.1 in (
      removed.0,
      gone capacity row w enc d r component between after known.within (known.filled row w whole enc) tested.there tested.empty frees left,
      subst (λ (z : List ℕ). RemovesFromIndex capacity row r z after) freed left,
    )
