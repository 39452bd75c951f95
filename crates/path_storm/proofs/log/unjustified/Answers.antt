use Rattle.std.proofs.Common.{arith, refl}
use Rattle.path_storm.proofs.Counts.{next_holds, next_other}
use Rattle.path_storm.proofs.log.unjustified.Goals.{then-not-justifies, else-not-justifies}
use Rattle.path_storm.proofs.log.unjustified.Goals as goal

pub loop-answer-preserved : goal.loop-answer-preserved
loop-answer-preserved c =
    let so_far = c.loop-answer.invariant in
    elim c.if-not-justifies.branch [
      | then-not-justifies w ↦ record {
        few = omega (arith, w.count-is);
        counted = rw w.count-is (next_other _ c.args.answers.now c.loop-answer.answer-index _ c.loop-answer.count c.loop-answer-test.true
            so_far.counted w.if-not-justifies.ensures.1);
      }
      | else-not-justifies w ↦ record {
        few = omega (arith, w.count-is);
        counted = rw w.count-is (next_holds _ c.args.answers.now c.loop-answer.answer-index _ c.loop-answer.count c.loop-answer-test.true
            so_far.counted (w.if-not-justifies.ensures.0 refl));
      }
    ]
