use Rattle.std.proofs.Common.{◌≡◌, [], Err, refl, sym, ap, ◌∙◌, rules}
use Rattle.trace_report.specs.laws.Endings.{appends_nothing}
use Rattle.trace_script.specs.laws.LineEnds.{by_kind, command_stopped, not_followed}
use Rattle.trace_script.specs.FollowedScripts.{exactly}
use Rattle.trace_script.specs.Script.{command, ignored, no_command, opens_policy, outside, within}
use Rattle.test_script.specs.TestScript.{test_kind}
use Rattle.trace_test.specs.inner.Tests.{test_engine, testing}
use Rattle.test_script.specs.LineValues.{test_kind_value, test_value}
use Rattle.trace_test.proofs.lines.do_words.Goals as goal

pub returns-in-Ignored-clause-line : goal.returns-in-Ignored-clause-line
returns-in-Ignored-clause-line g c limit =
    let t = testing (g.B.Bench.history c.args.bench.now) c.args.progress.now in
    let says : ignored ≡ test_kind c.args.number c.args.line.now = sym (ap test_kind_value c.in-Ignored.is) ∙ c.in_ok-kind.ensures in (
      [],
      by_kind (exactly (test_engine limit)) t c.args.number c.args.line.now ignored outside [] t says (refl, refl, refl),
      appends_nothing (g.A.Write.contents c.args.answers.now),
    )

pub returns-in-OpensPolicy-clause-line : goal.returns-in-OpensPolicy-clause-line
returns-in-OpensPolicy-clause-line g c limit =
    let t = testing (g.B.Bench.history c.args.bench.now) c.args.progress.now in
    let number = c.args.number in
    let says : opens_policy ≡ test_kind number c.args.line.now = sym (ap test_kind_value c.in-OpensPolicy.is) ∙ c.in_ok-kind.ensures in
    let starts : within number c.new.result.items ≡ within number [] = ap (within number) c.new.ensures.items in (
      [],
      by_kind (exactly (test_engine limit)) t number c.args.line.now opens_policy (within number c.new.result.items) [] t says
          (starts, refl, refl),
      appends_nothing (g.A.Write.contents c.args.answers.now),
    )

pub returns-in_ok-do_command-in-Command-clause-line : goal.returns-in_ok-do_command-in-Command-clause-line
returns-in_ok-do_command-in-Command-clause-line g c limit =
    let t = testing (g.B.Bench.history c.args.bench.now) c.args.progress.now in
    let asked = test_value c.in-Command.command in
    let says : command asked ≡ test_kind c.args.number c.args.line.now = sym (ap test_kind_value c.in-Command.is) ∙ c.in_ok-kind.ensures in
    let done = c.in_ok-do_command-in-Command.ensures.done limit in
    let new = testing (g.B.Bench.history c.do_command.new.bench) c.do_command.new.progress in (
      done.0,
      by_kind (exactly (test_engine limit)) t c.args.number c.args.line.now (command asked) outside done.0 new says (refl, done.1),
      done.2,
    )

pub returns-in_err-do_command-in-Command-clause-line : goal.returns-in_err-do_command-in-Command-clause-line
returns-in_err-do_command-in-Command-clause-line g c limit =
    let t = testing (g.B.Bench.history c.args.bench.now) c.args.progress.now in
    let asked = test_value c.in-Command.command in
    let told : c.from_residual-in_err-do_command-in-Command.result ≡ Err c.in_err-do_command-in-Command.field-0.0 = search rules in
    let says : command asked ≡ test_kind c.args.number c.args.line.now = sym (ap test_kind_value c.in-Command.is) ∙ c.in_ok-kind.ensures in
    let new = testing (g.B.Bench.history c.do_command.new.bench) c.do_command.new.progress in
    rw told (command_stopped (exactly (test_engine limit)) t c.args.number c.args.line.now asked new _ _
    c.in_err-do_command-in-Command.field-0.0 says (c.in_err-do_command-in-Command.ensures.done limit))

pub returns-in-NoCommand-clause-line : goal.returns-in-NoCommand-clause-line
returns-in-NoCommand-clause-line g c limit =
    let t = testing (g.B.Bench.history c.args.bench.now) c.args.progress.now in
    let says : no_command ≡ test_kind c.args.number c.args.line.now = sym (ap test_kind_value c.in-NoCommand.is) ∙ c.in_ok-kind.ensures in
    not_followed (exactly (test_engine limit)) t c.args.number c.args.line.now (g.A.Write.contents c.args.answers.now) says
