-- Each name has one more byte.
use Rattle.std.proofs.Common.{arith}
use Rattle.table_batches.proofs.Sides.{led_more}
use Rattle.table_batches.proofs.batches.side_by_side.Goals as goal

pub loop-i-preserved : goal.loop-i-preserved
loop-i-preserved g c = record {
  there = c.look_up_eight-after.ensures.there;
  led = led_more (g.E.Entries.table c.args.entries.now) c.args.text.now c.args.places c.args.states c.loop-i.reached
      c.look_up_eight-after.result c.loop-i.i c.loop-i.invariant.led c.look_up_eight-after.ensures.next
      (λ k lt. omega (arith, c.requires.within k lt, c.loop-i-test.true));
  steps = omega (arith, c.look_up_eight-after.ensures.steps, c.loop-i.invariant.steps);
}
