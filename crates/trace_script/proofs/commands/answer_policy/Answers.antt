use Rattle.std.proofs.Common.{◌≡◌, Err, refl, rules, ◌∙◌}
use Rattle.trace_script.specs.Script.{publish}
use Rattle.trace_script.specs.FollowedScripts.{IsStep}
use Rattle.trace_script.specs.RunOutput.{printed as answered}
use Rattle.trace_script.specs.laws.FollowedScripts.{printed, not_printed}
use Rattle.trace_script.specs.inner.FollowedScripts.{one_line_step}
use Rattle.trace_script.proofs.commands.answer_policy.Goals as goal

pub returns-in_err-line-clause-line : goal.returns-in_err-line-clause-line
returns-in_err-line-clause-line g c limit =
    let told : c.from_residual.result ≡ Err c.in_err-line.field-0.0 = search rules in
    let p = answered limit (g.B.Bench.history c.args.bench.now) (publish c.args.text.now) in
    let after = g.B.Bench.history c.policy_line.new.bench in
    rw told (not_printed (Unit {0}) (IsStep (one_line_step p)) after (g.A.Write.contents c.args.answers.now)
    c.in_err-line.field-0.0 (c.in_err-line.ensures.line limit))

pub returns-clause-line : goal.returns-clause-line
returns-clause-line g c limit =
    let p = answered limit (g.B.Bench.history c.args.bench.now) (publish c.args.text.now) in
    let composed = c.in_ok-line.ensures.line limit in
    printed (IsStep (one_line_step p)) (g.B.Bench.history c.policy_line.new.bench) _ p.text _ _ c.print_line.result
    (c.deref.ensures.value ∙ composed.0) (refl, composed.1) c.print_line.ensures
