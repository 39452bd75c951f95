use Rattle.trace_steps.proofs.StepEndings.{steps_end, steps_done}
use Rattle.trace_steps.proofs.steps.run_steps.Goals as goal

pub returns-in-Err : goal.returns-in-Err
returns-in-Err g c limit =
    let followed = c.in-Err.ensures limit in (
      followed.0,
      followed.1,
      steps_end limit (g.M.EventMachine.machine c.args.machine.now) (g.M.EventMachine.machine c.follow_script.new.on)
          followed.0 _ _ _ _ _ _ c.in-Err.stop c.fail.result followed.2 (rw c.status.ensures at c.fail.ensures),
    )

pub returns-in-Ok : goal.returns-in-Ok
returns-in-Ok g c limit =
    let (text, read, (stopped, (lines, did, written), consumed)) = c.in-Ok.ensures limit in (
      text,
      read,
      steps_done limit (g.M.EventMachine.machine c.args.machine.now) (g.M.EventMachine.machine c.follow_script.new.on)
          text lines _ _ _ stopped did written,
    )
