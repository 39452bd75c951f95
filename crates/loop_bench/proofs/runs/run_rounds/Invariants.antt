-- The rounds so far.
use Rattle.std.proofs.Common.{◌≡◌, ◌*◌}
use Rattle.loop_bench.specs.Walks.{AreAfterRounds, steps_of_round}
use Rattle.loop_bench.proofs.runs.run_rounds.Given as goal

abbrev pub invariant-loop-round : goal.invariant-loop-round
invariant-loop-round l = record {
  count : l.steps ≡ l._round * steps_of_round l.names l.initial.states;
  rounds : AreAfterRounds l.table l.names l._round l.initial.states l.states;
}
