-- The counts and the free slots follow the note.
use Rattle.std.proofs.Common.{◌++◌, ◌<◌, length, slice_index, take, drop, ap, ◌∙◌, arith}
use Rattle.std.proofs.lemmas.List.{get_or_read}
use Rattle.std.proofs.lemmas.Bool.Decides.{Decides-eqb}
use Rattle.row_tally.proofs.Entries.{entries_few}
use Rattle.row_tally.proofs.Summaries.{written}
use Rattle.row_tally.proofs.Notes.{AreCounted-noted}
use Rattle.row_tally.proofs.tally.RowTally.put_note.Goals as goal

pub add_entry-requires : goal.add_entry-requires
add_entry-requires c d inside =
    let t = c.self.inside in
    let counts = t.counts.items in
    let lower = c.remove_entry.new.counts in
    let down = written t.counts.len lower counts (omega (arith, t.counts.ok.0)) in
    let high_is = c.deref_mut-2.ensures.value ∙ down in
    let here : d < length c.deref_mut.result.now = omega (arith, inside, ap length high_is, c.remove_entry.auto.counts) in
    let low_is = c.deref_mut.ensures.value in
    let counted = c.self.invariant.entries d (omega (arith, here, ap length low_is)) in
    let first = ap (λ z. slice_index z d) low_is in
    let second = ap (λ z. slice_index z d) high_is in
    omega (arith, first, second, counted, c.remove_entry.ensures d here, entries_few t.notes.items d)

pub invariant_of-self-2 : goal.invariant_of-self-2
invariant_of-self-2 c =
    let t = c.self.inside in
    let counts = t.counts.items in
    let lower = c.remove_entry.new.counts in
    let higher = c.add_entry.new.counts in
    let within : c.args.slot < length t.notes.items = omega (arith, ap length c.self.view_is) in
    let down = written t.counts.len lower counts (omega (arith, t.counts.ok.0)) in
    let up = written t.counts.len higher (take t.counts.len (lower ++ drop (length lower) counts)) (omega (arith, t.counts.ok.0)) in
    let old = get_or_read t.notes.items c.args.slot c.index-old.result.now within c.index-old.ensures (record { kind = 0; parent = 0 }) in
    let tested = Decides-eqb c.args.note.kind 0 in
    rw up
    (AreCounted-noted t.notes.items c.args.slot c.index-old.result.now c.args.note counts c.deref_mut.result.now lower
    c.deref_mut-2.result.now higher t.free c.mark.new.self c.if-slot-eq0.false within old c.self.invariant
    c.deref_mut.ensures.value (c.deref_mut-2.ensures.value ∙ down) c.remove_entry.auto.counts c.add_entry.auto.counts
    c.mark.ensures.long c.remove_entry.ensures c.add_entry.ensures
    (λ one. tested.0 (c.mark.ensures.here.0 one), λ free. c.mark.ensures.here.1 (tested.1 free)) c.mark.ensures.others)
