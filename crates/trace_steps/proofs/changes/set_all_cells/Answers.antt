use Rattle.trace_steps.proofs.Cells.{set_one}
use Rattle.trace_steps.proofs.changes.set_all_cells.Goals as goal

pub loop-preserved : goal.loop-preserved
loop-preserved g c =
    let m = g.M.EventMachine.machine in
    set_one (m c.args.machine.now) (m c.loop.machine) (m c.step.new.self) c.in-Ok.field-0 c.loop.invariant c.in-Ok.ensures.ok
