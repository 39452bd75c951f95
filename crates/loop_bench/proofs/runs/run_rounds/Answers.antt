use Rattle.std.proofs.Common.{length, arith}
use Rattle.loop_bench.specs.Walks.{steps_of_round}
use Rattle.loop_bench.proofs.Rounds.{few, room}
use Rattle.loop_bench.proofs.runs.run_rounds.Goals as goal

pub run_all-requires : goal.run_all-requires
run_all-requires c =
    let names = c.args.names.now in
    let taken = steps_of_round names c.args.states.now in
    omega (
      arith,
      c.loop-round.invariant.count,
      room c.loop-round._round c.args.rounds (length names) taken c.loop-round-test.true
          (few names c.args.states.now) c.requires,
    )
