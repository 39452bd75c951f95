use Rattle.std.proofs.Common.{◌≡◌, ℕ, Option, Err, sym, ap, ◌∙◌, arith, rules}
use Rattle.rule_reader.specs.ReadText.{outcome_of}
use Rattle.trace_script.specs.FollowedScripts.{IsStep}
use Rattle.trace_script.specs.RunOutput.{printed}
use Rattle.trace_script.specs.Script.{publish}
use Rattle.trace_script.specs.declared.stop.Stop.TheVariants.{Memory}
use Rattle.trace_report.specs.laws.Endings.{keeps}
use Rattle.test_script.specs.TestScript.{ask, run}
use Rattle.trace_test.specs.Expectations.{is_refused}
use Rattle.trace_test.specs.inner.Tests.{last_by, test_step, testing}
use Rattle.trace_test.proofs.Expectations.{last_so, on_ok_so, step_so}
use Rattle.trace_test.proofs.lines.ask_policy.Goals as goal

pub returns-in_err-line-clause-done : goal.returns-in_err-line-clause-done
returns-in_err-line-clause-done g c limit =
    let told : c.from_residual.result ≡ Err c.in_err-line.field-0.0 = search rules in
    let memory : c.in_err-line.field-0.0 ≡ Memory = c.in_err-line.ensures.done limit in
    rw told (rw memory (keeps (g.A.Write.contents c.args.answers.now)))

pub returns-clause-done : goal.returns-clause-done
returns-clause-done g c limit =
    let history = g.B.Bench.history c.args.bench.now in
    let t = testing history c.args.progress.now in
    let p = printed limit history (publish c.args.text.now) in
    let composed = c.in_ok-line.ensures.done limit in
    let done = c.report.ensures.done history p composed.0 in
    step_so t c.args.start p _ _ _ _ _ _ _ _ c.report.result composed.2
    (ap (λ (r : Option ℕ). last_by r p.text) composed.3
    ∙ last_so c.args.start p.text (is_refused limit (outcome_of c.args.text.now)))
    (ap (λ h. testing h c.report.new.progress) (sym composed.1)) done

pub returns-clause-few : goal.returns-clause-few
returns-clause-few g c = on_ok_so c.report.result _ _ (λ h. omega (arith, h, c.in_ok-line.ensures.few)) c.report.ensures.few
