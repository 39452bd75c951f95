use Rattle.std.proofs.Common.{◌≡◌, Err, sym, ap, arith, rules}
use Rattle.trace_script.specs.FollowedScripts.{IsStep}
use Rattle.trace_script.specs.declared.stop.Stop.TheVariants.{Memory}
use Rattle.trace_report.specs.laws.Endings.{keeps}
use Rattle.trace_test.specs.Expectations.{last_of}
use Rattle.test_script.specs.TestScript.{ask}
use Rattle.trace_test.specs.inner.Tests.{answered_with, test_step, testing}
use Rattle.test_script.specs.LineValues.{asked_value}
use Rattle.trace_test.proofs.Expectations.{no_refusal, on_ok_so, step_so}
use Rattle.trace_test.proofs.lines.ask.Goals as goal

pub returns-in_err-line-clause-done : goal.returns-in_err-line-clause-done
returns-in_err-line-clause-done g c limit =
    let told : c.from_residual.result ≡ Err c.in_err-line.field-0.0 = search rules in
    let memory : c.in_err-line.field-0.0 ≡ Memory = c.in_err-line.ensures.line limit in
    rw told (rw memory (keeps (g.A.Write.contents c.args.answers.now)))

pub returns-clause-done : goal.returns-clause-done
returns-clause-done g c limit =
    let history = g.B.Bench.history c.args.bench.now in
    let t = testing history c.args.progress.now in
    let p = answered_with limit history t.published (asked_value c.args.command) in
    let composed = c.in_ok-line.ensures.line limit in
    let done = c.report.ensures.done history p composed.0 in
    step_so t c.args.number p _ _ _ _ _ _ _ _ c.report.result composed.2
    (sym (ap (last_of c.args.number p.text) (no_refusal limit c.args.command)))
    (ap (λ h. testing h c.report.new.progress) (sym composed.1)) done

pub returns-clause-few : goal.returns-clause-few
returns-clause-few g c = on_ok_so c.report.result _ _ (λ h. omega (arith, h, c.in_ok-line.ensures.few)) c.report.ensures.few
