use Rattle.std.proofs.Common.{sym, subst}
use Rattle.trace_script.specs.FollowedScripts.{IsPrinted, IsStep}
use Rattle.test_script.specs.declared.line.TestCommand.{TestCommand}
use Rattle.trace_test.specs.inner.Tests.{test_step, testing}
use Rattle.test_script.specs.LineValues.{test_value}
use Rattle.trace_test.proofs.lines.do_command.Goals as goal

pub returns-in-Ask-clause-done : goal.returns-in-Ask-clause-done
returns-in-Ask-clause-done g c limit =
    let t = testing (g.B.Bench.history c.args.bench.now) c.args.progress.now in
    let P : TestCommand → Type 0 = λ command. IsPrinted (IsStep (test_step limit t (test_value command)))
    (testing (g.B.Bench.history c.ask.new.bench) c.ask.new.progress) (g.A.Write.contents c.args.answers.now)
    (g.A.Write.contents c.ask.new.answers) c.ask.result in
    subst P (sym c.in-Ask.is) (c.ask.ensures.done limit)

pub returns-in-Expect-clause-done : goal.returns-in-Expect-clause-done
returns-in-Expect-clause-done g c limit =
    let history = g.B.Bench.history c.args.bench.now in
    let t = testing history c.args.progress.now in
    let P : TestCommand → Type 0 = λ command. IsPrinted (IsStep (test_step limit t (test_value command)))
    (testing history c.expect.new.progress) (g.A.Write.contents c.args.answers.now) (g.A.Write.contents c.expect.new.answers)
    c.expect.result in
    subst P (sym c.in-Expect.is) (c.expect.ensures.done limit history)
