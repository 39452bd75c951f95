use Rattle.std.proofs.Common.{sym, subst}
use Rattle.test_script.specs.declared.line.Asked.{Asked}
use Rattle.test_script.specs.LineValues.{asked_value}
use Rattle.trace_test.specs.inner.Published.{rules_in}
use Rattle.trace_test.specs.inner.Tests.{IsAnswered}
use Rattle.trace_test.proofs.lines.asked_line.Goals as goal

pub returns-in-Run-clause-line : goal.returns-in-Run-clause-line
returns-in-Run-clause-line g c limit =
    let P : Asked → Type 0 = λ command. IsAnswered limit (g.B.Bench.history c.args.bench.now) (rules_in c.args.published.now)
    (asked_value command) (g.B.Bench.history c.run_line.new.bench) (rules_in c.run_line.new.published) c.run_line.result in
    subst P (sym c.in-Run.is) (c.run_line.ensures.line limit)
