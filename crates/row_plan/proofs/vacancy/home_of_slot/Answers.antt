use Rattle.std.proofs.Common.{◌≡◌, ◌<◌, ◌+◌, ◌*◌, ◌%◌, ◌∙◌, sym, subst, arith}
use Rattle.std.specs.Prelude.{slice_index}
use Rattle.std.proofs.lemmas.List.{length-take-le}
use Rattle.row_index.specs.Hashes.{home}
use Rattle.tree_row.specs.Slots.{text_at}
use Rattle.tree_row.proofs.Bytes.{length-text}
use Rattle.row_plan.proofs.vacancy.home_of_slot.Goals as goal

pub slot_word-requires-clause-slot : goal.slot_word-requires-clause-slot
slot_word-requires-clause-slot g c =
    let (row, w, whole, enc) = c.requires.read in
    subst (λ k. c.args.slot < g.C.Cells.capacity_of k + 1) (sym c.component_length-count.ensures.kept)
    (c.requires.used row w whole enc).within

pub cell_place-base-requires-clause-slot : goal.cell_place-base-requires-clause-slot
cell_place-base-requires-clause-slot g c =
    let (row, w, whole, enc) = c.requires.read in
    subst (λ k. c.args.slot < g.C.Cells.capacity_of k + 1) (sym (c.slot_word.ensures.kept ∙ c.component_length-count.ensures.kept))
    (c.requires.used row w whole enc).within

pub read_text-requires-clause-within : goal.read_text-requires-clause-within
read_text-requires-clause-within g c =
    let (row, w, whole, enc) = c.requires.read in
    let slot = subst (λ k. c.args.slot < g.C.Cells.capacity_of k + 1)
    (sym (c.slot_word.ensures.kept ∙ c.component_length-count.ensures.kept)) (c.requires.used row w whole enc).within in
    let at = c.cell_place-base.ensures.place in
    omega arith

pub slice_bounds-home-end : goal.slice_bounds-home-end
slice_bounds-home-end g c =
    let long = c.read_text.auto.room in
    sym (length-take-le c.component_length-count.result c.read_text.new.room (omega arith))

pub home-requires-clause-directory : goal.home-requires-clause-directory
home-requires-clause-directory g c =
    let (row, w, whole, enc) = c.requires.read in
    let kept = c.slot_word.ensures.kept ∙ c.component_length-count.ensures.kept in
    let may = (g.met.C.Cells.whole_may c.slot_word.new.cells row (subst (λ k. g.C.Cells.whole k row) (sym kept) whole)).0 in
    let within = (enc.tree.slots.in_directory c.args.slot (c.requires.used row w whole enc)).within in
    let is : slice_index row (164 * c.args.slot + 2) ≡ c.in-Ok.directory = c.in-Ok.ensures.ok row may in
    let most = c.capacity-most.ensures.small in
    let capacity = c.capacity-most.ensures.capacity in
    omega arith

pub returns-clause-home : goal.returns-clause-home
returns-clause-home g c row w whole enc =
    let s = c.args.slot in
    let kept = c.slot_word.ensures.kept ∙ c.component_length-count.ensures.kept in
    let whole_one = subst (λ k. g.C.Cells.whole k row) (sym kept) whole in
    let whole_two = subst (λ k. g.C.Cells.whole k row) (sym c.read_text.ensures.kept) whole_one in
    let parent = c.in-Ok.ensures.ok row (g.met.C.Cells.whole_may c.slot_word.new.cells row whole_one).0 in
    let count = c.component_length-count.ensures.length row w whole enc
    ∙ length-text row (164 * s + 4) (slice_index row (164 * s + 3) % 65536) in
    let text = c.in-Ok-read_text.ensures.ok row (g.met.C.Cells.whole_may c.read_text.new.cells row whole_two).0 in
    let place = c.cell_place-base.ensures.place in
    let component = sym text ∙ (λ i. text_at row (place i) (count i)) in
    c.home.ensures.home ∙ (λ i. home c.args.size (sym parent i) (component i))
