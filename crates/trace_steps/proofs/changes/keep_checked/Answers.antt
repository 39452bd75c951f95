use Rattle.std.proofs.Common.{inr, refl}
use Rattle.names.specs.Errors.{errno_text}
use Rattle.trace_steps.specs.StepLines.{IsOpened}
use Rattle.trace_steps.proofs.ChangeEnds.{was_opened, was_refused}
use Rattle.trace_steps.proofs.changes.keep_checked.Goals as goal

pub returns-in-Ok : goal.returns-in-Ok
returns-in-Ok g c =
    let m = g.M.EventMachine.machine in
    inr (
      was_opened (m c.args.machine.now) (m c.open_change.new.machine) c.args.change.now c.in_ok-open_change.field-0 c.in-Ok.field-0
          c.in-Ok.is c.in_ok-open_change.ensures.ok,
      refl,
    )

pub returns-in_ok-errno_line-in-Err : goal.returns-in_ok-errno_line-in-Err
returns-in_ok-errno_line-in-Err g c =
    let old = g.M.EventMachine.machine c.args.machine.now in
    let new = g.M.EventMachine.machine c.open_change.new.machine in (
      errno_text c.in-Err.errno,
      c.in_ok-errno_line-in-Err.ensures,
      was_refused old new c.args.change.now c.in_ok-open_change.field-0 (IsOpened old) c.in-Err.errno c.in-Err.is
          c.in_ok-open_change.ensures.ok,
    )
