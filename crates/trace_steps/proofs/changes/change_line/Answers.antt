use Rattle.std.proofs.Common.{◌≡◌, false, Ok, is_some, refl, sym, ◌∙◌}
use Rattle.names.specs.Errors.{errno_text}
use Rattle.trace_script.specs.LineValues.{change_words}
use Rattle.trace_steps.specs.StepLines.{IsMade, Tries, TriesNow, not_now}
use Rattle.trace_steps.proofs.ChangeEnds.{at_fault, other_open, tried}
use Rattle.trace_steps.proofs.Commands.{has_line, has_line_so}
use Rattle.trace_steps.proofs.changes.change_line.Goals as goal

pub returns-then-has_open_change : goal.returns-then-has_open_change
returns-then-has_open_change g c =
    let old = g.M.EventMachine.machine c.args.machine.now in
    let words = change_words c.args.words in
    has_line (λ lines. TriesNow old words (IsMade old) lines old) not_now c.not_now_line.result c.not_now_line.ensures
    (other_open old old words (IsMade old) (sym c.has_open_change.ensures ∙ c.if-has_open_change.true) refl)

pub returns-in-Ok : goal.returns-in-Ok
returns-in-Ok g c =
    let old = g.M.EventMachine.machine c.args.machine.now in
    let new = g.M.EventMachine.machine c.checked_change_line.new.machine in
    let words = change_words c.args.words in
    let none : is_some old.keeper.pending ≡ false = sym c.has_open_change.ensures ∙ c.if-has_open_change.false in
    has_line_so (λ lines. Tries old (Ok c.in-Ok.change) (IsMade old) lines new) (λ lines. TriesNow old words (IsMade old) lines new)
    c.checked_change_line.result (λ lines tries. tried old new words (IsMade old) (Ok c.in-Ok.change) lines none c.in-Ok.ensures tries)
    c.checked_change_line.ensures

pub returns-in-Err : goal.returns-in-Err
returns-in-Err g c =
    let old = g.M.EventMachine.machine c.args.machine.now in
    let words = change_words c.args.words in
    let none : is_some old.keeper.pending ≡ false = sym c.has_open_change.ensures ∙ c.if-has_open_change.false in
    has_line (λ lines. TriesNow old words (IsMade old) lines old) (errno_text c.in-Err.errno) c.errno_line.result c.errno_line.ensures
    (at_fault old old words (IsMade old) c.in-Err.errno none c.in-Err.ensures refl)
