use Rattle.std.proofs.Common.{◌≡◌, Err, refl, rules, arith}
use Rattle.trace_script.specs.declared.reader.LineRead.TheVariants.{Whole, Last, End}
use Rattle.trace_script.proofs.ScriptRuns.{as_read, running_start, running_next, running_over, running_unread, running_stopped}
use Rattle.trace_script.proofs.ScriptRuns.{running_last_stopped, running_last, running_end}
use Rattle.trace_script.proofs.follower.follow_script.Goals as goal

pub loop-before-init : goal.loop-before-init
loop-before-init g c = record {
  few = omega (arith, c.requires);
  runs = λ limit. running_start (g.L.LineFollower.engine limit) _ _ _;
}

pub returns-in_err-read_line : goal.returns-in_err-read_line
returns-in_err-read_line g c limit =
    let engine = g.L.LineFollower.engine limit in
    let told : c.from_residual.result ≡ Err c.in_err-read_line.field-0.0 = search rules in
    rw told (running_unread engine _ _ _ _ _ _ _ _ (c.loop-before.invariant.runs limit) (g.R.Read.remaining c.read_line.new.input)
    c.read_line.new.line.items c.in_err-read_line.field-0.0 c.in_err-read_line.ensures)

pub returns-in_err-section-in-Whole : goal.returns-in_err-section-in-Whole
returns-in_err-section-in-Whole g c limit =
    let engine = g.L.LineFollower.engine limit in
    let left = g.R.Read.remaining c.loop-before.input in
    let after = g.R.Read.remaining c.read_line.new.input in
    let read = as_read left after c.read_line.new.line.items c.deref.result.now c.in_ok-read_line.field-0 Whole c.in-Whole.is
    c.deref.ensures.value c.in_ok-read_line.ensures in
    let told : c.from_residual-in_err-section-in-Whole.result ≡ Err c.in_err-section-in-Whole.field-0.0 = search rules in
    rw told (running_stopped engine _ _ _ _ _ _ _ _ (c.loop-before.invariant.runs limit) after c.deref.result.now
    (g.A.Write.contents c.follow_line.new.answers) (g.L.LineFollower.state c.follow_line.new.follower c.follow_line.new.on)
    c.in_err-section-in-Whole.field-0.0 read (c.in_err-section-in-Whole.ensures.line limit))

pub returns-in_err-follow_line-in-Last : goal.returns-in_err-follow_line-in-Last
returns-in_err-follow_line-in-Last g c limit =
    let engine = g.L.LineFollower.engine limit in
    let left = g.R.Read.remaining c.loop-before.input in
    let after = g.R.Read.remaining c.read_line.new.input in
    let read = as_read left after c.read_line.new.line.items c.deref-in-Last.result.now c.in_ok-read_line.field-0 Last c.in-Last.is
    c.deref-in-Last.ensures.value c.in_ok-read_line.ensures in
    let told : c.from_residual-in_err-follow_line-in-Last.result ≡ Err c.in_err-follow_line-in-Last.field-0.0 = search rules in
    rw told (running_last_stopped engine _ _ _ _ _ _ _ _ (c.loop-before.invariant.runs limit) after c.deref-in-Last.result.now
    (g.A.Write.contents c.follow_line-in-Last.new.answers)
    (g.L.LineFollower.state c.follow_line-in-Last.new.follower c.follow_line-in-Last.new.on)
    c.in_err-follow_line-in-Last.field-0.0 read (c.in_err-follow_line-in-Last.ensures.line limit))

pub returns-in-Last : goal.returns-in-Last
returns-in-Last g c limit =
    let engine = g.L.LineFollower.engine limit in
    let left = g.R.Read.remaining c.loop-before.input in
    let after = g.R.Read.remaining c.read_line.new.input in
    let read = as_read left after c.read_line.new.line.items c.deref-in-Last.result.now c.in_ok-read_line.field-0 Last c.in-Last.is
    c.deref-in-Last.ensures.value c.in_ok-read_line.ensures in
    running_last engine _ _ _ _ _ _ _ _ (c.loop-before.invariant.runs limit) after c.deref-in-Last.result.now
    (g.A.Write.contents c.follow_line-in-Last.new.answers)
    (g.L.LineFollower.state c.follow_line-in-Last.new.follower c.follow_line-in-Last.new.on)
    c.in_ok-follow_line-in-Last.field-0 c.close.result read (c.in_ok-follow_line-in-Last.ensures.line limit) c.close.ensures

pub returns-in-End : goal.returns-in-End
returns-in-End g c limit =
    let engine = g.L.LineFollower.engine limit in
    let left = g.R.Read.remaining c.loop-before.input in
    let after = g.R.Read.remaining c.read_line.new.input in
    let line = c.read_line.new.line.items in
    let read = as_read left after line line c.in_ok-read_line.field-0 End c.in-End.is refl c.in_ok-read_line.ensures in
    running_end engine _ _ _ _ _ _ _ _ (c.loop-before.invariant.runs limit) after line c.close-in-End.result read c.close-in-End.ensures

pub loop-before-preserved : goal.loop-before-preserved
loop-before-preserved g c =
    let left = g.R.Read.remaining c.loop-before.input in
    let after = g.R.Read.remaining c.read_line.new.input in
    let read = as_read left after c.read_line.new.line.items c.deref.result.now c.in_ok-read_line.field-0 Whole c.in-Whole.is
    c.deref.ensures.value c.in_ok-read_line.ensures in
    record {
      few = omega (arith, c.loop-before.invariant.few, c.in_ok-section-in-Whole.ensures.few);
      runs = λ limit. running_next (g.L.LineFollower.engine limit) _ _ _ _ _ _ _ _ (c.loop-before.invariant.runs limit) after
          c.deref.result.now (g.A.Write.contents c.follow_line.new.answers)
          (g.L.LineFollower.state c.follow_line.new.follower c.follow_line.new.on)
          c.in_ok-section-in-Whole.section read (c.in_ok-section-in-Whole.ensures.line limit);
    }

pub returns : goal.returns
returns g c limit =
    let engine = g.L.LineFollower.engine limit in
    running_over engine _ _ _ _ _ _ _ _ (c.loop-before.invariant.runs limit) (omega (arith, c.loop-before-test.false))
