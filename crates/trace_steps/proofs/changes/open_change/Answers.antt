use Rattle.trace_steps.proofs.ChangeEnds.{tested_so}
use Rattle.trace_steps.proofs.Cells.{opens_silently}
use Rattle.trace_steps.proofs.changes.open_change.Goals as goal

pub unreachable-requires-in-Err-NotNow-step : goal.unreachable-requires-in-Err-NotNow-step
unreachable-requires-in-Err-NotNow-step g c =
    let m = g.M.EventMachine.machine in
    let lawful = tested_so (m c.args.machine.now) (m c.test.new.self) c.args.change.now c.in-Ok-Ok.field-0 c.in-Ok-Ok.field-0-0
    c.in-Ok-Ok.ensures.same c.in-Ok-Ok.field-0-is c.in-Ok-Ok.ensures.ok in
    c.in-Err-NotNow-step.ensures.not_now c.in-Err-NotNow-step.field-0-is lawful

pub returns-in-Ok-clause-ok : goal.returns-in-Ok-clause-ok
returns-in-Ok-clause-ok g c =
    let m = g.M.EventMachine.machine in
    opens_silently (m c.args.machine.now) (m c.test.new.self) (m c.step.new.self) c.args.change.now c.in-Ok.field-0 c.test.ensures.same
    c.in-Ok.ensures.ok
