use Rattle.std.proofs.Common.{List, subst, arith}
use Rattle.std.proofs.lemmas.List.{take_all}
use Rattle.row_rule.specs.declared.cell.Cell.{Cell}
use Rattle.row_rule.specs.Row.{write}
use Rattle.row_tally.specs.Tally.{IsTallyOf}
use Rattle.dentry_cache.proofs.Tallied.{follows_next}
use Rattle.dentry_cache.proofs.tally.follow.Goals as goal

pub loop-cell-preserved : goal.loop-cell-preserved
loop-cell-preserved c capacity row within before =
    follows_next capacity row c.args.plan.now c.loop-cell.cell-index record { place = 0; word = 0 } _ _ c.loop-cell-test.true within
    c.set.ensures.follows (c.loop-cell.invariant capacity row within before)

pub returns : goal.returns
returns c capacity row within before =
    subst (λ (cells : List Cell). IsTallyOf capacity (write row cells) c.loop-cell.tally)
    (take_all c.loop-cell.cell-index c.args.plan.now (omega (arith, c.loop-cell-test.false)))
    (c.loop-cell.invariant capacity row within before)
