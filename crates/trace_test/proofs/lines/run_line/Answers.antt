use Rattle.std.proofs.Common.{◌≡◌, Err, rules}
use Rattle.trace_test.proofs.lines.run_line.Goals as goal

pub returns-in_err-line-clause-line : goal.returns-in_err-line-clause-line
returns-in_err-line-clause-line g c limit =
    let told : c.from_residual.result ≡ Err c.in_err-line.field-0.0 = search rules in
    rw told (c.in_err-line.ensures.line limit)
