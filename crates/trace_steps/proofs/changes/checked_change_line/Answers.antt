use Rattle.std.proofs.Common.{Ok, inr}
use Rattle.names.specs.Errors.{errno_text}
use Rattle.trace_steps.specs.StepLines.{ClosesOpen, IsMade, Tries}
use Rattle.trace_steps.proofs.Cells.{is_open}
use Rattle.trace_steps.proofs.ChangeEnds.{was_opened, was_refused}
use Rattle.trace_steps.proofs.Commands.{has_line, has_line_so}
use Rattle.trace_steps.proofs.changes.checked_change_line.Goals as goal

pub close_open_change-requires : goal.close_open_change-requires
close_open_change-requires g c =
    let m = g.M.EventMachine.machine in
    let change = c.args.change.now in
    is_open (m c.args.machine.now) (m c.open_change.new.machine) change
    (was_opened (m c.args.machine.now) (m c.open_change.new.machine) change c.in_ok-open_change.field-0 c.in-Ok.field-0 c.in-Ok.is
    c.in_ok-open_change.ensures.ok)

pub returns-in-Ok : goal.returns-in-Ok
returns-in-Ok g c =
    let old = g.M.EventMachine.machine c.args.machine.now in
    let mid = g.M.EventMachine.machine c.open_change.new.machine in
    let new = g.M.EventMachine.machine c.close_open_change.new.machine in
    let change = c.args.change.now in
    let opened = was_opened old mid change c.in_ok-open_change.field-0 c.in-Ok.field-0 c.in-Ok.is c.in_ok-open_change.ensures.ok in
    has_line_so (λ lines. ClosesOpen mid lines new) (λ lines. Tries old (Ok change) (IsMade old) lines new) c.close_open_change.result
    (λ lines closes. inr (mid, opened, closes)) c.close_open_change.ensures

pub returns-in-Err : goal.returns-in-Err
returns-in-Err g c =
    let old = g.M.EventMachine.machine c.args.machine.now in
    let new = g.M.EventMachine.machine c.open_change.new.machine in
    let change = c.args.change.now in
    has_line (λ lines. Tries old (Ok change) (IsMade old) lines new) (errno_text c.in-Err.errno) c.errno_line.result c.errno_line.ensures
    (was_refused old new change c.in_ok-open_change.field-0 (IsMade old) c.in-Err.errno c.in-Err.is c.in_ok-open_change.ensures.ok)
