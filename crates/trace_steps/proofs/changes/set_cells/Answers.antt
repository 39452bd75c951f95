use Rattle.std.proofs.Common.{◌≡◌}
use Rattle.event_machine.specs.Machine.Event.{set_cell}
use Rattle.trace_steps.specs.StepLines.{TakesUpTo, none_taken}
use Rattle.trace_steps.proofs.Commands.{is_done_so}
use Rattle.trace_steps.proofs.changes.set_cells.Goals as goal

pub returns : goal.returns
returns g c =
    let old = g.M.EventMachine.machine c.args.machine.now in
    let new = g.M.EventMachine.machine c.set_up_to.new.machine in
    let set = c.in_ok-count.ensures in
    is_done_so (λ lines. lines ≡ none_taken c.args.most c.in_ok-count.count) (λ lines. TakesUpTo old c.args.most set_cell lines new)
    c.none_taken_line.result (λ lines is. (c.in_ok-count.count, set.few, set.runs, set.all, is)) c.none_taken_line.ensures
