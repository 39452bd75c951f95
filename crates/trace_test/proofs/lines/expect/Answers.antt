use Rattle.std.proofs.Common.{◌≡◌, ℕ, ◌+◌, true, false, List, Option, Some, length, sym, ap, ◌∙◌, arith}
use Rattle.mediation.specs.History.{new_history}
use Rattle.trace_report.specs.Output.{line}
use Rattle.trace_test.specs.Expectations.{Expectation, holds, once_compared, text_of, unexpected}
use Rattle.trace_test.specs.TestOutput.{failure_text}
use Rattle.trace_test.specs.inner.Tests.{Testing, last_in, testing, with_one}
use Rattle.trace_test.proofs.Expectations.{failed_done, held_done, on_ok, once_quiet, once_text}
use Rattle.trace_test.proofs.lines.expect.Goals as goal

pub returns-then-compare-clause-done : goal.returns-then-compare-clause-done
returns-then-compare-clause-done g c limit history =
    let t = testing history c.args.progress.now in
    let e : Expectation = record { number = c.args.number; expected = Some c.args.expected.now; got = text_of t.last } in
    let held : holds e ≡ true = sym c.compare.ensures.holds ∙ c.if-compare.true in
    let same = c.compare.ensures.state history ∙ ap (with_one t) c.if-compare.true in
    held_done {T = Unit {0}} t e (testing history c.compare.new.self) (g.A.Write.contents c.args.answers.now) tt held same

pub returns-clause-done : goal.returns-clause-done
returns-clause-done g c limit history =
    let t = testing history c.args.progress.now in
    let of : Option (List ℕ) → Expectation = λ (got : Option (List ℕ)). record {
      number = c.args.number;
      expected = Some c.args.expected.now;
      got = got;
    } in
    let e : Expectation = of (text_of t.last) in
    let fails : holds e ≡ false = sym c.compare.ensures.holds ∙ c.if-compare.false in
    let same = c.compare.ensures.state history ∙ ap (with_one t) c.if-compare.false in
    let now : Expectation = of (text_of (testing history c.compare.new.self).last) in
    let here : now ≡ e = ap (λ (t : Testing). of (text_of t.last)) same ∙ ap of (once_text t.last) in
    let composed : c.in_ok-line.line.items ≡ line (failure_text t.options.format e) = c.in_ok-line.ensures
    ∙ ap (λ (t : Testing). line (failure_text t.options.format now)) same
    ∙ ap (λ (e : Expectation). line (failure_text t.options.format e)) here in
    failed_done t e (testing history c.compare.new.self) _ _ c.deref.result.now c.print_line.result fails same
    (c.deref.ensures.value ∙ composed) c.print_line.ensures

pub returns-then-compare-clause-few : goal.returns-then-compare-clause-few
returns-then-compare-clause-few g c =
    let counted = ap (λ (t : Testing). t.total + length (unexpected t.last)) (c.compare.ensures.state (new_history 0)) in
    omega (arith, counted, once_quiet (last_in c.args.progress.now))

pub returns-clause-few : goal.returns-clause-few
returns-clause-few g c =
    let counted = ap (λ (t : Testing). t.total + length (unexpected t.last)) (c.compare.ensures.state (new_history 0)) in
    on_ok c.print_line.result _ (omega (arith, counted, once_quiet (last_in c.args.progress.now)))
