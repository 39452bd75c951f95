use Rattle.trace_steps.proofs.Cells.{set_more}
use Rattle.trace_steps.proofs.changes.set_up_to.Goals as goal

pub loop-set-preserved : goal.loop-set-preserved
loop-set-preserved g c =
    let m = g.M.EventMachine.machine in
    set_more c.loop-set.set (m c.args.machine.now) (m c.loop-set.machine) (m c.step.new.self) c.in-Ok.field-0 c.loop-set.invariant
    c.in-Ok.ensures.ok
