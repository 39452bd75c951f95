use Rattle.std.proofs.Common.{◌≡◌, ◌+◌, ℕ, List, Err, length, ap, ◌∙◌, rules}
use Rattle.mediation.specs.History.{new_history}
use Rattle.trace_script.specs.FollowedScripts.{IsStep}
use Rattle.trace_test.specs.Expectations.{unexpected}
use Rattle.trace_script.specs.RunOutput.{text_of_lines}
use Rattle.trace_script.specs.declared.stop.Stop.TheVariants.{Memory}
use Rattle.trace_report.specs.laws.Endings.{keeps}
use Rattle.trace_test.specs.TestOutput.{lines_of_events}
use Rattle.trace_test.specs.inner.Published.{rules_in}
use Rattle.trace_test.specs.inner.Tests.{Testing, asked_events, asked_step, counted_in, once_answered, testing}
use Rattle.trace_test.proofs.Expectations.{on_ok, printed_lines, refusals_so}
use Rattle.trace_test.proofs.lines.report.Goals as goal

pub returns-in_err-lines-clause-done : goal.returns-in_err-lines-clause-done
returns-in_err-lines-clause-done g c history p e =
    let told : c.from_residual.result ≡ Err c.in_err-lines.field-0.0 = search rules in
    let memory : c.in_err-lines.field-0.0 ≡ Memory = c.in_err-lines.ensures in
    rw told (rw memory (keeps (g.A.Write.contents c.args.answers.now)))

pub returns-clause-done : goal.returns-clause-done
returns-clause-done g c history p e =
    let t = testing history c.args.progress.now in
    let text : c.without_line_feed-answer.result.items ≡ p.text = c.without_line_feed-answer.ensures p.text e in
    let seen : c.deref.result.now ≡ p.text = c.deref.ensures.value ∙ text in
    let composed = c.in_ok-lines.ensures ∙ ap (λ (text : List ℕ). text_of_lines (lines_of_events t.options
    (asked_events t.last c.args.number text))) seen in
    let kept = c.keep.ensures p.history ∙ ap (λ (text : List ℕ). once_answered (testing p.history c.args.progress.now) text c.args.refused)
    text in
    printed_lines (asked_step t c.args.number p (rules_in c.args.progress.now.published) c.args.refused) _ _ _ _ c.print_lines.result
    (c.deref-2.ensures.value ∙ composed) kept c.print_lines.ensures

pub returns-clause-few : goal.returns-clause-few
returns-clause-few g c =
    let counted = ap (λ (t : Testing). t.total + length (unexpected t.last)) (c.keep.ensures (new_history 0)) in
    on_ok c.print_lines.result _ (counted ∙ ap (λ n. counted_in c.args.progress.now + n)
    (refusals_so c.args.refused c.without_line_feed-answer.result.items))
