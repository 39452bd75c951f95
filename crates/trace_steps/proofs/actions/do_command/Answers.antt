use Rattle.std.proofs.Common.{sym, subst}
use Rattle.trace_steps.specs.StepLines.{Does}
use Rattle.trace_steps.specs.declared.command.StepCommand.{StepCommand}
use Rattle.trace_steps.specs.inner.Actions.{IsDone}
use Rattle.trace_steps.specs.inner.StepValues.{step_value}
use Rattle.trace_steps.proofs.actions.do_command.Goals as goal

pub returns-in-ReadCells : goal.returns-in-ReadCells
returns-in-ReadCells g c limit =
    let old = g.M.EventMachine.machine c.args.machine.now in
    let new = g.M.EventMachine.machine c.read_cells.new.machine in
    let P : StepCommand → Type 0 = λ command. IsDone (λ lines. Does limit old (step_value command) lines new) c.read_cells.result in
    subst P (sym c.in-ReadCells.is) c.read_cells.ensures
