use Rattle.std.proofs.Common.{◌≡◌}
use Rattle.trace_steps.specs.StepLines.{none_taken, TakesUpTo}
use Rattle.event_machine.specs.Machine.Event.{read_cell}
use Rattle.trace_steps.proofs.CallEnds.{read_up_to}
use Rattle.trace_steps.proofs.Commands.{is_done_so}
use Rattle.trace_steps.proofs.calls.read_cells.Goals as goal

pub returns-in-Ok : goal.returns-in-Ok
returns-in-Ok g c =
    let old = g.M.EventMachine.machine c.args.machine.now in
    let new = g.M.EventMachine.machine c.read_cells.new.self in
    let taken = c.in-Ok.ensures.ok in
    is_done_so (λ lines. lines ≡ none_taken c.args.most c.in-Ok.count) (λ lines. TakesUpTo old c.args.most (read_cell c.args.session) lines
    new) c.none_taken_line.result
    (λ lines is. read_up_to c.args.session c.args.most c.in-Ok.count old new lines taken.0 taken.1 c.in-Ok.ensures.all is)
    c.none_taken_line.ensures
