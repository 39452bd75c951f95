use Rattle.std.proofs.Common.{Ok, Err}
use Rattle.trace_script.specs.laws.Exact.{followed_by}
use Rattle.trace_script.proofs.ScriptEndings.{script_ends, script_done}
use Rattle.trace_script.specs.inner.FollowedScripts.{run_engine}
use Rattle.trace_script.proofs.script.run_script.Goals as goal

pub returns-in-Err : goal.returns-in-Err
returns-in-Err g c = record {
  ended = λ limit.
      let (text, read, followed) = c.in-Err.ensures limit in
      let history = g.B.Bench.history c.args.bench.now in
      let now = g.B.Bench.history c.follow_script.new.on in
      let by = followed_by (run_engine limit) history (g.R.Read.remaining c.args.input.now) (g.R.Read.remaining c.follow_script.new.input)
      text now (g.A.Write.contents c.args.answers.now) (g.A.Write.contents c.follow_script.new.answers) {T = Unit {0}}
      (Err c.in-Err.stop) followed in
      (text, read, script_ends limit history now text _ _ _ _ _ _ c.in-Err.stop c.fail.result by (rw c.status.ensures at c.fail.ensures));
}

pub returns-in-Ok : goal.returns-in-Ok
returns-in-Ok g c = record {
  ended = λ limit.
      let (text, read, followed) = c.in-Ok.ensures limit in
      let history = g.B.Bench.history c.args.bench.now in
      let now = g.B.Bench.history c.follow_script.new.on in
      let by = followed_by (run_engine limit) history (g.R.Read.remaining c.args.input.now) (g.R.Read.remaining c.follow_script.new.input)
      text now (g.A.Write.contents c.args.answers.now) (g.A.Write.contents c.follow_script.new.answers) {T = Unit {0}}
      (Ok tt) followed in
      (text, read, script_done limit history text _ _ _ by.0 by.2);
}
