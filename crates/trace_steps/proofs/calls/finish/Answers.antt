use Rattle.trace_steps.proofs.CallEnds.{answered_so, has_come_on}
use Rattle.trace_steps.proofs.Stages.{is_not_told}
use Rattle.trace_steps.proofs.calls.finish.Goals as goal

pub returns-in-Ok : goal.returns-in-Ok
returns-in-Ok g c =
    let m = g.M.EventMachine.machine in
    let come = has_come_on c.args.session (m c.args.machine.now) (m c.lead_on.new.machine) (m c.lead_on-2.new.machine)
    (m c.read_all_cells.new.machine) (m c.lead_on-3.new.machine)
    c.in_ok-lead_on.ensures.ok c.in_ok-lead_on-2.ensures.ok c.in_ok-read_all_cells.ensures.led c.in_ok-read_all_cells.ensures.all
    c.in_ok-lead_on-3.ensures.ok in
    answered_so c.args.session (m c.args.machine.now) (m c.lead_on-3.new.machine) (m c.step.new.self) c.in-Ok.told come c.in-Ok.ensures.ok

pub returns-in-Err-NotNow : goal.returns-in-Err-NotNow
returns-in-Err-NotNow g c =
    let m = g.M.EventMachine.machine in
    let come = has_come_on c.args.session (m c.args.machine.now) (m c.lead_on.new.machine) (m c.lead_on-2.new.machine)
    (m c.read_all_cells.new.machine) (m c.lead_on-3.new.machine)
    c.in_ok-lead_on.ensures.ok c.in_ok-lead_on-2.ensures.ok c.in_ok-read_all_cells.ensures.led c.in_ok-read_all_cells.ensures.all
    c.in_ok-lead_on-3.ensures.ok in
    is_not_told c.args.session (m c.args.machine.now) (m c.lead_on-3.new.machine) (m c.step.new.self) come c.in-Err-NotNow.ensures.same
    (c.in-Err-NotNow.ensures.turn c.in-Err-NotNow.field-0-is)
