use Rattle.trace_test.proofs.Outcomes.{done_test, told_test}
use Rattle.trace_test.proofs.script.run_test.Goals as goal

pub returns-in-Ok : goal.returns-in-Ok
returns-in-Ok g c limit =
    let done = c.in-Ok.ensures limit in (
      done.0,
      done.1,
      done_test c.args.options limit (g.B.Bench.history c.args.bench.now) c.requires done.0 _ _ _ _ (g.F.Write.contents c.args.faults.now)
          c.in-Ok.status done.2,
    )

pub returns-in-Err : goal.returns-in-Err
returns-in-Err g c limit =
    let done = c.in-Err.ensures limit in (
      done.0,
      done.1,
      told_test c.args.options limit (g.B.Bench.history c.args.bench.now) c.requires done.0 _ _ _ _ _ _ c.in-Err.stop c.fail.result done.2
          (rw c.status.ensures at c.fail.ensures),
    )
