-- What is live where each rule begins comes in.
use Rattle.std.proofs.Common.{length, ap, arith}
use Rattle.glob_automaton.proofs.GatheringSteps.{starts_more, starts_all, read_start_there}
use Rattle.glob_automaton.specs.inner.GatheredSets.{Holds}
use Rattle.glob_automaton.proofs.subsets.gather_start.Goals as goal

pub enter-requires-clause-there : goal.enter-requires-clause-there
enter-requires-clause-there c =
    read_start_there c.args.chart.now c.requires.chart c.loop-rule.rule-index c.deref-rule-items.result.now _
    c.deref-rule-items.ensures.value c.loop-rule-test.true

pub loop-rule-preserved : goal.loop-rule-preserved
loop-rule-preserved c = (
  c.in_ok-enter.ensures.gathering,
  starts_more c.args.chart.now (Holds c.loop-rule.gathering) (Holds c.enter.new.self) c.loop-rule.rule-index
      c.deref-rule-items.result.now _
      c.deref-rule-items.ensures.value c.loop-rule-test.true c.loop-rule.invariant.1 c.in_ok-enter.ensures.places,
)

pub returns-clause-start : goal.returns-clause-start
returns-clause-start c =
    starts_all c.args.chart.now (Holds c.loop-rule.gathering) c.read_off.new.self.places.items c.loop-rule.rule-index
    (omega (arith, c.loop-rule-test.false, ap length c.deref-rule-items.ensures.value)) c.loop-rule.invariant.1
    c.in_ok-read_off.ensures.sorted c.in_ok-read_off.ensures.places
