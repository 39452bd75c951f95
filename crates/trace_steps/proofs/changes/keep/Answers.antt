use Rattle.std.proofs.Common.{◌≡◌, false, Ok, is_some, refl, sym, ◌∙◌}
use Rattle.names.specs.Errors.{errno_text}
use Rattle.trace_script.specs.LineValues.{change_words}
use Rattle.trace_steps.specs.StepLines.{IsOpened, Tries, TriesNow, not_now}
use Rattle.trace_steps.proofs.ChangeEnds.{at_fault, other_open, tried}
use Rattle.trace_steps.proofs.Commands.{is_done_so}
use Rattle.trace_steps.proofs.changes.keep.Goals as goal

pub returns-then-has_open_change : goal.returns-then-has_open_change
returns-then-has_open_change g c =
    let old = g.M.EventMachine.machine c.args.machine.now in
    let words = change_words c.args.words in (
      not_now,
      c.in_ok-not_now_line.ensures,
      other_open old old words (IsOpened old)
          (sym c.has_open_change.ensures ∙ c.if-has_open_change.true) refl,
    )

pub returns-in-Ok : goal.returns-in-Ok
returns-in-Ok g c =
    let old = g.M.EventMachine.machine c.args.machine.now in
    let new = g.M.EventMachine.machine c.keep_checked.new.machine in
    let words = change_words c.args.words in
    let none : is_some old.keeper.pending ≡ false = sym c.has_open_change.ensures ∙ c.if-has_open_change.false in
    is_done_so (λ lines. Tries old (Ok c.in-Ok.change) (IsOpened old) lines new) (λ lines. TriesNow old words (IsOpened old) lines new)
    c.keep_checked.result (λ lines tries. tried old new words (IsOpened old) (Ok c.in-Ok.change) lines none c.in-Ok.ensures tries)
    c.keep_checked.ensures

pub returns-in_ok-errno_line-in-Err : goal.returns-in_ok-errno_line-in-Err
returns-in_ok-errno_line-in-Err g c =
    let old = g.M.EventMachine.machine c.args.machine.now in
    let words = change_words c.args.words in
    let none : is_some old.keeper.pending ≡ false = sym c.has_open_change.ensures ∙ c.if-has_open_change.false in (
      errno_text c.in-Err.errno,
      c.in_ok-errno_line-in-Err.ensures,
      at_fault old old words (IsOpened old) c.in-Err.errno none
          c.in-Err.ensures refl,
    )
