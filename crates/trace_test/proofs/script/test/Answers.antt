use Rattle.std.proofs.Common.{◌≡◌, ℕ, ◌+◌, List, Ok, Err, length, ap, ◌∙◌, subst, rules, arith}
use Rattle.trace_test.specs.Expectations.{unexpected}
use Rattle.trace_report.specs.Streams.{IsTextOf}
use Rattle.trace_script.specs.FollowedScripts.{IsFollowed, exactly}
use Rattle.trace_script.specs.laws.Exact.{followed_by}
use Rattle.trace_test.specs.inner.Tests.{Testing, first_testing, test_engine, testing}
use Rattle.trace_test.proofs.Outcomes.{cut_test, stopped_test, uncounted_test, whole_test}
use Rattle.trace_test.proofs.script.test.Goals as goal

pub follow_script-requires : goal.follow_script-requires
follow_script-requires g c =
    let history = g.B.Bench.history c.args.bench.now in
    let none = ap (λ (t : Testing). t.total + length (unexpected t.last)) (c.new-progress.ensures history) in
    omega (arith, c.requires, none)

pub returns-in_err-follow_script : goal.returns-in_err-follow_script
returns-in_err-follow_script g c limit =
    let history = g.B.Bench.history c.args.bench.now in
    let now = testing (g.B.Bench.history c.follow_script.new.on) c.follow_script.new.follower in
    let stop = c.in_err-follow_script.field-0.0 in
    let told : c.from_residual.result ≡ Err stop = search rules in
    let P : Testing → Type 0 = λ first. (text : List ℕ) × IsTextOf (g.R.Read.remaining c.args.input.now) text
    × IsFollowed (exactly (test_engine limit)) {T = Unit {0}} first
    (g.R.Read.remaining c.args.input.now) (g.R.Read.remaining c.follow_script.new.input) text now (g.A.Write.contents c.args.answers.now)
    (g.A.Write.contents c.follow_script.new.answers) (Err stop) in
    let ran = subst P (c.new-progress.ensures history) (c.in_err-follow_script.ensures limit) in
    let by = followed_by (test_engine limit) (first_testing c.args.options history) (g.R.Read.remaining c.args.input.now)
    (g.R.Read.remaining c.follow_script.new.input) ran.0 now (g.A.Write.contents c.args.answers.now)
    (g.A.Write.contents c.follow_script.new.answers) {T = Unit {0}} (Err stop) ran.2 in
    rw told (ran.0, ran.1, stopped_test c.args.options limit history c.requires _ _ ran.0 now _ _ stop by)

pub returns-in_err-lines : goal.returns-in_err-lines
returns-in_err-lines g c limit =
    let history = g.B.Bench.history c.args.bench.now in
    let now = testing (g.B.Bench.history c.follow_script.new.on) c.follow_script.new.follower in
    let stop = c.in_err-lines.field-0.0 in
    let told : c.from_residual-in_err-lines.result ≡ Err stop = search rules in
    let P : Testing → Type 0 = λ first. (text : List ℕ) × IsTextOf (g.R.Read.remaining c.args.input.now) text
    × IsFollowed (exactly (test_engine limit)) {T = Unit {0}} first
    (g.R.Read.remaining c.args.input.now) (g.R.Read.remaining c.follow_script.new.input) text now (g.A.Write.contents c.args.answers.now)
    (g.A.Write.contents c.follow_script.new.answers) (Ok tt) in
    let ran = subst P (c.new-progress.ensures history) (c.in_ok-follow_script.ensures limit) in
    let by = followed_by (test_engine limit) (first_testing c.args.options history) (g.R.Read.remaining c.args.input.now)
    (g.R.Read.remaining c.follow_script.new.input) ran.0 now (g.A.Write.contents c.args.answers.now)
    (g.A.Write.contents c.follow_script.new.answers) {T = Unit {0}} (Ok tt) ran.2 in
    rw told (
      ran.0,
      ran.1,
      uncounted_test c.args.options limit history c.requires _ _ ran.0 now _ _ by stop
          c.in_err-lines.ensures,
    )

pub returns-in_err-print_line : goal.returns-in_err-print_line
returns-in_err-print_line g c limit =
    let history = g.B.Bench.history c.args.bench.now in
    let now = testing (g.B.Bench.history c.follow_script.new.on) c.follow_script.new.follower in
    let stop = c.in_err-print_line.field-0.0 in
    let told : c.from_residual-in_err-print_line.result ≡ Err stop = search rules in
    let P : Testing → Type 0 = λ first. (text : List ℕ) × IsTextOf (g.R.Read.remaining c.args.input.now) text
    × IsFollowed (exactly (test_engine limit)) {T = Unit {0}} first
    (g.R.Read.remaining c.args.input.now) (g.R.Read.remaining c.follow_script.new.input) text now (g.A.Write.contents c.args.answers.now)
    (g.A.Write.contents c.follow_script.new.answers) (Ok tt) in
    let ran = subst P (c.new-progress.ensures history) (c.in_ok-follow_script.ensures limit) in
    let by = followed_by (test_engine limit) (first_testing c.args.options history) (g.R.Read.remaining c.args.input.now)
    (g.R.Read.remaining c.follow_script.new.input) ran.0 now (g.A.Write.contents c.args.answers.now)
    (g.A.Write.contents c.follow_script.new.answers) {T = Unit {0}} (Ok tt) ran.2 in
    let bytes = c.deref.ensures.value ∙ c.in_ok-lines.ensures (g.B.Bench.history c.follow_script.new.on) in
    let cut = cut_test c.args.options limit history c.requires _ _ ran.0 now _ _ by (g.A.Write.contents c.print_line.new.answers)
    c.deref.result.now
    stop bytes c.in_err-print_line.ensures in
    rw told (ran.0, ran.1, cut)

pub returns : goal.returns
returns g c limit =
    let history = g.B.Bench.history c.args.bench.now in
    let now = testing (g.B.Bench.history c.follow_script.new.on) c.follow_script.new.follower in
    let P : Testing → Type 0 = λ first. (text : List ℕ) × IsTextOf (g.R.Read.remaining c.args.input.now) text
    × IsFollowed (exactly (test_engine limit)) {T = Unit {0}} first
    (g.R.Read.remaining c.args.input.now) (g.R.Read.remaining c.follow_script.new.input) text now (g.A.Write.contents c.args.answers.now)
    (g.A.Write.contents c.follow_script.new.answers) (Ok tt) in
    let ran = subst P (c.new-progress.ensures history) (c.in_ok-follow_script.ensures limit) in
    let by = followed_by (test_engine limit) (first_testing c.args.options history) (g.R.Read.remaining c.args.input.now)
    (g.R.Read.remaining c.follow_script.new.input) ran.0 now (g.A.Write.contents c.args.answers.now)
    (g.A.Write.contents c.follow_script.new.answers) {T = Unit {0}} (Ok tt) ran.2 in
    let bytes = c.deref.ensures.value ∙ c.in_ok-lines.ensures (g.B.Bench.history c.follow_script.new.on) in (
      ran.0,
      ran.1,
      whole_test c.args.options limit history c.requires _ _ ran.0 now _ _ by (g.A.Write.contents c.print_line.new.answers)
          c.deref.result.now c.status.result c.status.ensures bytes c.in_ok-print_line.ensures,
    )
