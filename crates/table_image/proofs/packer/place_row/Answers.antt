-- The row is placed where its cells are free.
use Rattle.std.proofs.Common.{◌∙◌, List, ℕ, sym, subst₂}
use Rattle.std.proofs.lemmas.List.{with_items_is}
use Rattle.table_image.specs.inner.PackSteps.{IsPlaced, IsWritten}
use Rattle.table_image.proofs.PackedStates.{grown}
use Rattle.table_image.proofs.StartSlots.{slots_stay}
use Rattle.table_image.proofs.TakenCells.{stays_blocked}
use Rattle.table_image.proofs.packer.place_row.Goals as goal

pub returns-clause-placed : goal.returns-clause-placed
returns-clause-placed c =
    let taken = c.make_cells.new.taken in
    let more = c.write_cells.new.taken in
    let targets = c.args.targets.now in
    let bytes = c.args.bytes.now in
    let base = c.place-base.result in
    let written : IsWritten c.make_cells.new.next.items c.make_cells.new.check.items taken c.write_cells.new.next
    c.write_cells.new.check more targets bytes base c.args.state =
    subst₂ (λ (x : List ℕ) (y : List ℕ). IsWritten x y taken c.write_cells.new.next c.write_cells.new.check more targets bytes base
    c.args.state) c.deref_mut.ensures.value c.deref_mut-2.ensures.value c.write_cells.ensures in
    subst₂ (λ (x : List ℕ) (y : List ℕ). IsPlaced c.args.next.now.items c.args.check.now.items c.args.taken.now x y more targets bytes
    c.args.state base)
    (sym (with_items_is c.make_cells.new.next c.write_cells.new.next (written.next_long ∙ sym c.make_cells.new.next.ok.0)))
    (sym (with_items_is c.make_cells.new.check c.write_cells.new.check (written.check_long ∙ sym c.make_cells.new.check.ok.0)))
    record {
      low = c.place-base.ensures.low;
      free = c.place-base.ensures.free;
      made_next = c.make_cells.new.next.items;
      made_check = c.make_cells.new.check.items;
      made_taken = taken;
      made = c.in_ok-make_cells.ensures;
      written = written;
    }

pub returns-clause-starts : goal.returns-clause-starts
returns-clause-starts c =
    let taken = c.args.taken.now in
    let more = c.write_cells.new.taken in
    let bytes = c.args.bytes.now in
    let grows = grown _ _ taken _ _ more c.args.targets.now bytes c.args.state c.place-base.result (returns-clause-placed c) in
    c.in_ok-remember.ensures more (slots_stay taken more c.args.starts.now.slots.items grows c.requires.starts)
    (λ x lt. stays_blocked taken more bytes x grows (c.place-base.ensures.least x lt))
