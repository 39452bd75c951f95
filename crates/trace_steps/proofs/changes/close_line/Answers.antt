use Rattle.std.proofs.Common.{refl, inl, sym, ◌∙◌}
use Rattle.trace_steps.specs.StepLines.{Closes, ClosesOpen, not_now}
use Rattle.trace_steps.proofs.ChangeEnds.{closes_none}
use Rattle.trace_steps.proofs.Commands.{has_line, has_line_so}
use Rattle.trace_steps.proofs.changes.close_line.Goals as goal

pub returns-then-has_open_change : goal.returns-then-has_open_change
returns-then-has_open_change g c =
    let old = g.M.EventMachine.machine c.args.machine.now in
    let new = g.M.EventMachine.machine c.close_open_change.new.machine in
    has_line_so (λ lines. ClosesOpen old lines new) (λ lines. Closes old lines new) c.close_open_change.result (λ lines closes. inl closes)
    c.close_open_change.ensures

pub returns-else-has_open_change : goal.returns-else-has_open_change
returns-else-has_open_change g c =
    let old = g.M.EventMachine.machine c.args.machine.now in
    has_line (λ lines. Closes old lines old) not_now c.not_now_line.result c.not_now_line.ensures
    (closes_none old old (sym c.has_open_change.ensures ∙ c.if-has_open_change.false) refl)
