use Rattle.std.proofs.Common.{◌≡◌, ◌∙◌, ◌+◌, ◌<◌, ◌||◌, ◌==◌, List, ℕ, get_or, take, slice_index_or, sym, ap, subst, subst₂}
use Rattle.std.proofs.Common.{arith}
use Rattle.std.proofs.Math.ListN.{set}
use Rattle.std.proofs.lemmas.List.{get_or_default, take_more}
use Rattle.table_image.specs.inner.TakenCells.{is_taken}
use Rattle.table_image.specs.inner.PackSteps.{IsWritten}
use Rattle.table_image.proofs.WrittenCells.{one_written}
use Rattle.table_image.proofs.cells.write_cells.Goals as goal

pub loop-byte-preserved : goal.loop-byte-preserved
loop-byte-preserved c =
    let bytes = c.args.bytes.now in
    let i = c.loop-byte.byte-index in
    let b : ℕ = get_or bytes i 0 in
    let is_b : c.from.result ≡ b = c.from.ensures in
    let is_b2 : c.from-in-loop-byte.result ≡ b = c.from-in-loop-byte.ensures in
    let small : b < 256 = c.requires.below b (i, c.loop-byte-test.true, get_or_default bytes i b 0 c.loop-byte-test.true) in
    let one = one_written c.args.next.now c.args.check.now c.args.taken.now c.loop-byte.next c.loop-byte.check c.loop-byte.taken
    c.take.new.self c.args.targets.now
    (take i bytes) c.args.base c.args.state b c.loop-byte.invariant (omega (arith, small, c.requires.next))
    (omega (arith, small, c.requires.check))
    (λ d. c.take.ensures.taken d ∙ ap (λ z. is_taken c.loop-byte.taken d || (d == (c.args.base + z))) is_b) c.take.ensures.long in
    subst₂ (λ x y. IsWritten c.args.next.now c.args.check.now c.args.taken.now
    (set c.loop-byte.next (c.args.base + x) (slice_index_or c.args.targets.now y 0))
    (set c.loop-byte.check (c.args.base + x) c.args.state) c.take.new.self c.args.targets.now (take (i + 1) bytes) c.args.base
    c.args.state) (sym is_b) (sym is_b2)
    (subst (λ (z : List ℕ). IsWritten c.args.next.now c.args.check.now c.args.taken.now
    (set c.loop-byte.next (c.args.base + b) (slice_index_or c.args.targets.now b 0))
    (set c.loop-byte.check (c.args.base + b) c.args.state) c.take.new.self c.args.targets.now z c.args.base c.args.state)
    (sym (take_more bytes i 0 c.loop-byte-test.true)) one)
