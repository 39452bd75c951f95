use Rattle.std.proofs.Common.{◌≡◌, ◌+◌, ◌*◌, ◌%◌, ◌∙◌, ℕ, length, sym, ap, subst, arith}
use Rattle.std.specs.Prelude.{slice_index}
use Rattle.tree_row.specs.Slots.{slot_at}
use Rattle.tree_row.proofs.Bytes.{length-text}
use Rattle.row_plan.proofs.vacancy.component_length.Goals as goal

pub slot_word-requires-clause-slot : goal.slot_word-requires-clause-slot
slot_word-requires-clause-slot g c =
    let (row, w, whole, enc) = c.requires.read in
    (c.requires.used row w whole enc).within

pub returns-clause-length : goal.returns-clause-length
returns-clause-length g c row w whole enc =
    let whole_now = subst (λ k. g.C.Cells.whole k row) (sym c.slot_word.ensures.kept) whole in
    let lengths = c.in-Ok.ensures.ok row (g.met.C.Cells.whole_may c.slot_word.new.cells row whole_now).0 in
    sym (length-text row (164 * c.args.slot + 4) (slice_index row (164 * c.args.slot + 3) % 65536) ∙ ap (λ (z : ℕ). z % 65536) lengths)

pub returns-clause-short : goal.returns-clause-short
returns-clause-short g c =
    let (row, w, whole, enc) = c.requires.read in
    let range = (enc.tree.slots.in_range c.args.slot (c.requires.used row w whole enc)).component in
    let is : c.in-Ok.lengths % 65536 ≡ length (slot_at row c.args.slot).component = returns-clause-length g c row w whole enc in
    omega arith
