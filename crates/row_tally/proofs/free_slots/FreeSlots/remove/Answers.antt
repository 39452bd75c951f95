use Rattle.std.proofs.Common.{◌/◌, ◌<◌, length, refl, ap, ◌∙◌, arith}
use Rattle.std.specs.Prelude.{slice_index}
use Rattle.row_tally.specs.Bits.{bit_in, IsSummary}
use Rattle.row_tally.proofs.Summaries.{IsSummary-changed, written, read_word}
use Rattle.row_tally.proofs.free_slots.FreeSlots.remove.Goals as goal

pub invariant_of-self : goal.invariant_of-self
invariant_of-self c =
    let f = c.self.inside in
    let words = c.clear_bit.new.words in
    let summary = c.clear_bit-then-index-eq0.new.words in
    let was : IsSummary c.deref_mut.result.now c.deref_mut-then-index-eq0.result.now =
    rw (c.deref_mut.ensures.value, c.deref_mut-then-index-eq0.ensures.value) c.self.invariant in
    let kept = written f.words.len words f.words.items (omega (arith, f.words.ok.0)) in
    let kept_above = written f.summary.len summary f.summary.items (omega (arith, f.summary.ok.0)) in
    let word = read_word f.words.len (c.args.slot / 64) c.index.result.now words f.words.items (omega (arith, f.words.ok.0))
    (omega (arith, f.words.ok.0, ap length c.self.view_is)) c.index.ensures in
    rw (kept, kept_above)
    (IsSummary-changed c.deref_mut.result.now c.deref_mut-then-index-eq0.result.now words summary (c.args.slot / 64) was
    c.clear_bit.auto.words c.clear_bit-then-index-eq0.auto.words (
      λ one. absurd (omega (arith, one, c.clear_bit-then-index-eq0.ensures.here)),
      λ positive. absurd (omega (arith, positive, word, c.if-index-eq0.true)),
    )
    c.clear_bit.ensures.words c.clear_bit-then-index-eq0.ensures.others)

pub invariant_of-self-else-index-eq0 : goal.invariant_of-self-else-index-eq0
invariant_of-self-else-index-eq0 c =
    let f = c.self.inside in
    let words = c.clear_bit.new.words in
    let was : IsSummary c.deref_mut.result.now f.summary.items = rw c.deref_mut.ensures.value c.self.invariant in
    let kept = written f.words.len words f.words.items (omega (arith, f.words.ok.0)) in
    let apart = c.if-index-eq0.false in
    let word = read_word f.words.len (c.args.slot / 64) c.index.result.now words f.words.items (omega (arith, f.words.ok.0))
    (omega (arith, f.words.ok.0, ap length c.self.view_is)) c.index.ensures in
    let positive : 0 < slice_index words (c.args.slot / 64) = omega (arith, word, apart) in
    rw kept
    (IsSummary-changed c.deref_mut.result.now f.summary.items words f.summary.items (c.args.slot / 64) was
    c.clear_bit.auto.words refl
    (λ _. positive, λ _. (was.bits (c.args.slot / 64)).1 (let less = c.clear_bit.ensures.less in omega arith))
    c.clear_bit.ensures.words (λ w _. refl))

pub returns-then-index-eq0-clause-others : goal.returns-then-index-eq0-clause-others
returns-then-index-eq0-clause-others c s apart =
    let f = c.self.inside in
    let words = c.clear_bit.new.words in
    let kept = written f.words.len words f.words.items (omega (arith, f.words.ok.0)) in
    ap (λ z. bit_in z s) kept ∙ c.clear_bit.ensures.others s apart ∙ ap (λ z. bit_in z s) (c.deref_mut.ensures.value ∙ c.self.view_is)
