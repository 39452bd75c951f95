use Rattle.std.proofs.Common.{◌≡◌, [], Err, refl, ap, rules}
use Rattle.trace_report.specs.laws.Endings.{appends_nothing}
use Rattle.trace_script.specs.laws.LineEnds.{by_kind, command_stopped, not_followed}
use Rattle.trace_script.specs.Script.{outside, within, ignored, opens_policy, command}
use Rattle.trace_steps.specs.inner.FollowedSteps.{step_engine}
use Rattle.trace_steps.specs.inner.StepValues.{step_value}
use Rattle.trace_steps.proofs.lines.SteppingLineFollower.do_line.Goals as goal

pub returns-in-Ignored-clause-line : goal.returns-in-Ignored-clause-line
returns-in-Ignored-clause-line g c limit =
    let machine = g.M.EventMachine.machine c.args.machine.now in (
      [],
      by_kind (step_engine limit) machine c.args.number c.args.line.now ignored outside [] machine c.in-Ignored.ensures
          (refl, refl, refl),
      appends_nothing (g.A.Write.contents c.args.answers.now),
    )

pub returns-in-OpensPolicy-clause-line : goal.returns-in-OpensPolicy-clause-line
returns-in-OpensPolicy-clause-line g c limit =
    let machine = g.M.EventMachine.machine c.args.machine.now in
    let number = c.args.number in
    let starts : within number c.new.result.items ≡ within number [] = ap (within number) c.new.ensures.items in (
      [],
      by_kind (step_engine limit) machine number c.args.line.now opens_policy (within number c.new.result.items) [] machine
          c.in-OpensPolicy.ensures (starts, refl, refl),
      appends_nothing (g.A.Write.contents c.args.answers.now),
    )

pub returns-in_ok-answer_command-in-Command-clause-line : goal.returns-in_ok-answer_command-in-Command-clause-line
returns-in_ok-answer_command-in-Command-clause-line g c limit =
    let machine = g.M.EventMachine.machine c.args.machine.now in
    let done = c.in_ok-answer_command-in-Command.ensures limit in
    let new = g.M.EventMachine.machine c.answer_command.new.machine in (
      done.0,
      by_kind (step_engine limit) machine c.args.number c.args.line.now (command (step_value c.in-Command.command)) outside
          done.0 new c.in-Command.ensures (refl, done.1),
      done.2,
    )

pub returns-in_err-answer_command-in-Command-clause-line : goal.returns-in_err-answer_command-in-Command-clause-line
returns-in_err-answer_command-in-Command-clause-line g c limit =
    let machine = g.M.EventMachine.machine c.args.machine.now in
    let new = g.M.EventMachine.machine c.answer_command.new.machine in
    let told : c.from_residual.result ≡ Err c.in_err-answer_command-in-Command.field-0.0 = search rules in
    rw told (command_stopped (step_engine limit) machine c.args.number c.args.line.now (step_value c.in-Command.command) new
    _ _ c.in_err-answer_command-in-Command.field-0.0 c.in-Command.ensures (c.in_err-answer_command-in-Command.ensures limit))

pub returns-in-NoCommand-clause-line : goal.returns-in-NoCommand-clause-line
returns-in-NoCommand-clause-line g c limit = not_followed (step_engine limit) (g.M.EventMachine.machine c.args.machine.now) c.args.number
    c.args.line.now (g.A.Write.contents c.args.answers.now) c.in-NoCommand.ensures
