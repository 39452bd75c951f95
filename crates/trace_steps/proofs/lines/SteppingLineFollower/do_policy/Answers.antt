use Rattle.std.proofs.Common.{◌≡◌, Err, rules}
use Rattle.trace_script.specs.laws.FollowedScripts.{not_printed}
use Rattle.trace_steps.specs.StepLines.{Does}
use Rattle.trace_steps.specs.StepScript.{publish_text}
use Rattle.trace_steps.proofs.Commands.{line_put}
use Rattle.trace_steps.proofs.lines.SteppingLineFollower.do_policy.Goals as goal

pub returns-in_err-line-clause-line : goal.returns-in_err-line-clause-line
returns-in_err-line-clause-line g c limit =
    let told : c.from_residual.result ≡ Err c.in_err-line.field-0.0 = search rules in
    let new = g.M.EventMachine.machine c.policy_line.new.machine in
    rw told (not_printed (Unit {0}) (Does limit (g.M.EventMachine.machine c.args.machine.now) (publish_text c.args.text.now)) new
    (g.A.Write.contents c.args.answers.now) c.in_err-line.field-0.0 (c.in_err-line.ensures limit))

pub returns-clause-line : goal.returns-clause-line
returns-clause-line g c limit =
    line_put (Does limit (g.M.EventMachine.machine c.args.machine.now) (publish_text c.args.text.now))
    (g.M.EventMachine.machine c.policy_line.new.machine) c.in_ok-line.line c.deref.result.now _ _ c.print_line.result
    c.deref.ensures.value (c.in_ok-line.ensures limit) c.print_line.ensures
