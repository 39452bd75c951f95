use Rattle.std.proofs.Common.{◌∙◌, ◌+◌, ◌||◌, take, sym, ap, arith}
use Rattle.std.proofs.lemmas.List.{take_all}
use Rattle.table_image.specs.inner.TakenCells.{is_bit, is_taken, is_blocked}
use Rattle.table_image.proofs.TakenCells.{blocked_more}
use Rattle.table_image.proofs.WordBits.{bits_or, bits_zero}
use Rattle.table_image.proofs.taken.Taken.blocked.Goals as goal

pub loop-byte-init : goal.loop-byte-init
loop-byte-init c = record { bits = λ i lt. bits_zero i }

pub loop-byte-preserved : goal.loop-byte-preserved
loop-byte-preserved c = record {
  bits = λ i lt.
      bits_or c.loop-byte.blocked c.window-blocked.result i
      ∙ ap (λ z. z || is_bit c.window-blocked.result i) (c.loop-byte.invariant.bits i lt)
      ∙ ap (λ z. is_blocked c.args.self.now (take c.loop-byte.byte-index c.args.bytes.now) (c.args.base + i) || z)
      (c.window-blocked.ensures i lt ∙ ap (is_taken c.args.self.now) (omega (arith, c.from.ensures)))
      ∙ sym (blocked_more c.args.self.now c.args.bytes.now c.loop-byte.byte-index (c.args.base + i) c.loop-byte-test.true);
}

pub returns : goal.returns
returns c i lt = c.loop-byte.invariant.bits i lt ∙ ap (λ z. is_blocked c.args.self.now z (c.args.base + i))
    (take_all c.loop-byte.byte-index c.args.bytes.now c.loop-byte-test.false)
