use Rattle.std.proofs.Common.{ap, arith}
use Rattle.std.specs.Prelude.{not}
use Rattle.rule_explain.specs.Places.{is_line_feed}
use Rattle.rule_explain.proofs.LineLaws.{last_is}
use Rattle.rule_explain.proofs.place.last_line.Goals as goal
use Rattle.rule_explain.proofs.place.last_line.Goals.{then-loop-start-test+else-bytes-start-ne10, else-loop-start-test}

pub returns : goal.returns
returns c =
    last_is c.args.bytes.now c.loop-start.start c.loop-start.invariant.within c.loop-start.invariant.behind
    (elim c.loop-start-test.branch [
      | then-loop-start-test+else-bytes-start-ne10 w ↦ λ lt. ap (λ b. not (is_line_feed b)) w.if-bytes-start-ne10.false
      | else-loop-start-test w ↦ λ lt. absurd (omega (arith, lt, w.loop-start-test.false))
    ])
