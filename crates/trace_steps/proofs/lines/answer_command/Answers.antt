use Rattle.std.proofs.Common.{◌≡◌, Err, rules}
use Rattle.trace_script.specs.laws.FollowedScripts.{not_printed}
use Rattle.trace_steps.specs.StepLines.{Does}
use Rattle.trace_steps.specs.inner.StepValues.{step_value}
use Rattle.trace_steps.proofs.Commands.{done_put, done_silently}
use Rattle.trace_steps.proofs.lines.answer_command.Goals as goal

pub returns-in_err-line : goal.returns-in_err-line
returns-in_err-line g c limit =
    let told : c.from_residual.result ≡ Err c.in_err-line.field-0.0 = search rules in
    let new = g.M.EventMachine.machine c.do_command.new.machine in
    rw told (not_printed (Unit {0}) (Does limit (g.M.EventMachine.machine c.args.machine.now) (step_value c.args.command)) new
    (g.A.Write.contents c.args.answers.now) c.in_err-line.field-0.0 (c.in_err-line.ensures limit))

pub returns-in-Some : goal.returns-in-Some
returns-in-Some g c limit =
    done_put (Does limit (g.M.EventMachine.machine c.args.machine.now) (step_value c.args.command))
    (g.M.EventMachine.machine c.do_command.new.machine) c.in_ok-line.field-0 c.in-Some.line c.deref.result.now _ _ c.print_line.result
    c.in-Some.is c.deref.ensures.value (c.in_ok-line.ensures limit) c.print_line.ensures

pub returns-in-None : goal.returns-in-None
returns-in-None g c limit =
    done_silently {T = Unit {0}} (Does limit (g.M.EventMachine.machine c.args.machine.now) (step_value c.args.command))
    (g.M.EventMachine.machine c.do_command.new.machine) c.in_ok-line.field-0 (g.A.Write.contents c.args.answers.now) tt c.in-None.is
    (c.in_ok-line.ensures limit)
