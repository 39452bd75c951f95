use Rattle.std.proofs.Common.{ap, arith}
use Rattle.rule_explain.specs.Places.{is_line_feed}
use Rattle.trace_import.proofs.FirstLines.{first_is}
use Rattle.trace_import.proofs.account.first_line.Goals as goal
use Rattle.trace_import.proofs.account.first_line.Goals.{then-loop-end-test+else-bytes-end-ne10, else-loop-end-test}

pub returns : goal.returns
returns c =
    first_is c.args.bytes.now c.loop-end.end c.loop-end.invariant.within c.loop-end.invariant.before
    (elim c.loop-end-test.branch [
      | then-loop-end-test+else-bytes-end-ne10 w ↦ λ lt. ap is_line_feed w.if-bytes-end-ne10.false
      | else-loop-end-test w ↦ λ lt. absurd (omega (arith, lt, w.loop-end-test.false))
    ])
