-- The candidate of one more permission is in the list.
use Rattle.rule_influence.proofs.CandidateLists.{there_more}
use Rattle.rule_influence.proofs.substitutes.is_missing.Goals.{else-number-ne0-via-then-number-ne0+else-not-has}
use Rattle.rule_influence.proofs.substitutes.is_missing.Goals.{else-number-ne0-via-else-number-ne0}
use Rattle.rule_influence.proofs.substitutes.is_missing.Goals as goal

pub loop-permission-preserved : goal.loop-permission-preserved
loop-permission-preserved c = record {
  there = λ up. there_more c.args.case c.args.records.now c.permissions_are_numbered.ensures.there c.loop-permission.permission-index _
      c.candidate-number.result c.args.list.now
      (c.permissions_are_numbered.ensures.only c.loop-permission.permission-index _ c.loop-permission-test.true)
      c.candidate-number.ensures
      (elim c.else-number-ne0.branch [
        | else-number-ne0-via-then-number-ne0+else-not-has w ↦ λ nonzero. (w.has.ensures up).0 w.if-not-has.false
        | else-number-ne0-via-else-number-ne0 w ↦ λ nonzero. absurd (nonzero w.if-number-ne0.false)
      ])
      (c.loop-permission.invariant.there up);
}
