use Rattle.std.proofs.Common.{◌/◌, arith}
use Rattle.row_tally.specs.Bits.{IsSummary}
use Rattle.row_tally.proofs.Summaries.{IsSummary-changed, written}
use Rattle.row_tally.proofs.WordBits.{positive_word}
use Rattle.row_tally.proofs.free_slots.FreeSlots.insert.Goals as goal

pub invariant_of-self : goal.invariant_of-self
invariant_of-self c =
    let f = c.self.inside in
    let words = c.set_bit.new.words in
    let summary = c.set_bit-2.new.words in
    let was : IsSummary c.deref_mut.result.now c.deref_mut-2.result.now =
    rw (c.deref_mut.ensures.value, c.deref_mut-2.ensures.value) c.self.invariant in
    let kept = written f.words.len words f.words.items (omega (arith, f.words.ok.0)) in
    let kept_above = written f.summary.len summary f.summary.items (omega (arith, f.summary.ok.0)) in
    rw (kept, kept_above)
    (IsSummary-changed c.deref_mut.result.now c.deref_mut-2.result.now words summary (c.args.slot / 64) was
    c.set_bit.auto.words c.set_bit-2.auto.words
    (λ _. positive_word words c.args.slot c.set_bit.ensures.here, λ _. c.set_bit-2.ensures.here)
    c.set_bit.ensures.words c.set_bit-2.ensures.others)
