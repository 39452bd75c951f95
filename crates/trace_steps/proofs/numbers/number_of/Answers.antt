use Rattle.std.proofs.Common.{◌≡◌, None, rules, arith}
use Rattle.trace_steps.proofs.NumberSteps.{no_digit, all_read}
use Rattle.trace_steps.proofs.numbers.number_of.Goals as goal

pub returns-in_err-number : goal.returns-in_err-number
returns-in_err-number c =
    let told : c.from_residual.result ≡ None = search rules in
    rw told (no_digit c.loop-byte.number c.args.word.now c.loop-byte.byte-index c.loop-byte.invariant (omega arith)
    c.in_err-number.ensures)

pub returns : goal.returns
returns c = all_read c.loop-byte.number c.args.word.now c.loop-byte.byte-index c.loop-byte.invariant (omega arith) c.if-is_empty.ensures
