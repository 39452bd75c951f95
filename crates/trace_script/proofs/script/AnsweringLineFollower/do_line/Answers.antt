use Rattle.std.proofs.Common.{◌≡◌, [], Err, refl, ap, rules}
use Rattle.trace_report.specs.laws.Endings.{appends_nothing}
use Rattle.trace_script.specs.laws.LineEnds.{by_kind, command_stopped, not_followed}
use Rattle.trace_script.specs.FollowedScripts.{exactly}
use Rattle.trace_script.specs.inner.FollowedScripts.{run_engine}
use Rattle.trace_script.specs.LineValues.{command_value}
use Rattle.trace_script.specs.Script.{outside, within, ignored, opens_policy, command}
use Rattle.trace_script.proofs.script.AnsweringLineFollower.do_line.Goals as goal

pub returns-in-Ignored-clause-line : goal.returns-in-Ignored-clause-line
returns-in-Ignored-clause-line g c limit =
    let history = g.B.Bench.history c.args.bench.now in (
      [],
      by_kind (exactly (run_engine limit)) history c.args.number c.args.line.now ignored outside [] history c.in-Ignored.ensures
          (refl, refl, refl),
      appends_nothing (g.A.Write.contents c.args.answers.now),
    )

pub returns-in-OpensPolicy-clause-line : goal.returns-in-OpensPolicy-clause-line
returns-in-OpensPolicy-clause-line g c limit =
    let history = g.B.Bench.history c.args.bench.now in
    let number = c.args.number in
    let starts : within number c.new.result.items ≡ within number [] = ap (within number) c.new.ensures.items in (
      [],
      by_kind (exactly (run_engine limit)) history number c.args.line.now opens_policy (within number c.new.result.items) [] history
          c.in-OpensPolicy.ensures (starts, refl, refl),
      appends_nothing (g.A.Write.contents c.args.answers.now),
    )

pub returns-in_ok-answer_command-in-Command-clause-line : goal.returns-in_ok-answer_command-in-Command-clause-line
returns-in_ok-answer_command-in-Command-clause-line g c limit =
    let history = g.B.Bench.history c.args.bench.now in
    let done = c.in_ok-answer_command-in-Command.ensures.line limit in
    let new = g.B.Bench.history c.answer_command.new.bench in (
      done.0,
      by_kind (exactly (run_engine limit)) history c.args.number c.args.line.now (command (command_value c.in-Command.command)) outside
          done.0 new c.in-Command.ensures (refl, done.1),
      done.2,
    )

pub returns-in_err-answer_command-in-Command-clause-line : goal.returns-in_err-answer_command-in-Command-clause-line
returns-in_err-answer_command-in-Command-clause-line g c limit =
    let history = g.B.Bench.history c.args.bench.now in
    let new = g.B.Bench.history c.answer_command.new.bench in
    let told : c.from_residual.result ≡ Err c.in_err-answer_command-in-Command.field-0.0 = search rules in
    rw told (command_stopped (exactly (run_engine limit)) history c.args.number c.args.line.now (command_value c.in-Command.command) new
    _ _ c.in_err-answer_command-in-Command.field-0.0 c.in-Command.ensures (c.in_err-answer_command-in-Command.ensures.line limit))

pub returns-in-NoCommand-clause-line : goal.returns-in-NoCommand-clause-line
returns-in-NoCommand-clause-line g c limit = not_followed (exactly (run_engine limit)) (g.B.Bench.history c.args.bench.now) c.args.number
    c.args.line.now (g.A.Write.contents c.args.answers.now) c.in-NoCommand.ensures
