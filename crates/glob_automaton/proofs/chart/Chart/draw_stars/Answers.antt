-- The run is drawn, and before it the one byte of a strict one.
use Rattle.std.proofs.Common.{subst, refl}
use Rattle.std.proofs.lemmas.Result.{IfOk-weaker}
use Rattle.rule_globs.specs.Glob.{ByteSet, one, run, not_slash}
use Rattle.rule_globs.specs.Meaning.{in_stars, stars_glob}
use Rattle.glob_automaton.specs.inner.Drawings.{IsDrawn, IsKnown, TakesSet}
use Rattle.glob_automaton.specs.declared.chart.Label.TheVariants as label
use Rattle.glob_automaton.proofs.DrawingLaws.{drawn_cat, stars_all, stars_some, strict_stars, free_stars}
use Rattle.glob_automaton.proofs.chart.Chart.draw_stars.Goals as goal
use Rattle.glob_automaton.proofs.chart.Chart.draw_stars.Goals.{then-stars, else-stars}

pub draw_one-requires : goal.draw_one-requires
draw_one-requires c =
    let facts : IsKnown c.args.self.now c.if-stars.takes × TakesSet c.args.self.now c.if-stars.takes
    (in_stars c.args.stars.crosses_slashes) =
    elim c.if-stars.branch [
      | then-stars w ↦ stars_all c.args.self.now c.args.stars.crosses_slashes c.if-stars.takes w.if-stars.true w.takes-is
      | else-stars w ↦ stars_some c.args.self.now c.args.stars.crosses_slashes c.if-stars.takes w.if-stars.false w.takes-is
    ] in
    (c.in_ok-run.ensures.drawn (in_stars c.args.stars.crosses_slashes) facts.0 facts.1).ready

pub returns-then-stars-2 : goal.returns-then-stars-2
returns-then-stars-2 c =
    let facts : IsKnown c.args.self.now c.if-stars.takes × TakesSet c.args.self.now c.if-stars.takes
    (in_stars c.args.stars.crosses_slashes) =
    elim c.if-stars.branch [
      | then-stars w ↦ stars_all c.args.self.now c.args.stars.crosses_slashes c.if-stars.takes w.if-stars.true w.takes-is
      | else-stars w ↦ stars_some c.args.self.now c.args.stars.crosses_slashes c.if-stars.takes w.if-stars.false w.takes-is
    ] in
    let drawn : IsDrawn c.args.self.now c.draw_run.new.self (run (in_stars c.args.stars.crosses_slashes)) c.args.behind c.in_ok-run.run' =
    c.in_ok-run.ensures.drawn (in_stars c.args.stars.crosses_slashes) facts.0 facts.1 in
    IfOk-weaker c.draw_one.result
    (λ start. (set : ByteSet) → IsKnown c.draw_run.new.self label.InComponent → TakesSet c.draw_run.new.self label.InComponent set →
    IsDrawn c.draw_run.new.self c.draw_one.new.self (one set) c.in_ok-run.run' start)
    (λ start. IsDrawn c.args.self.now c.draw_one.new.self (stars_glob c.args.stars.crosses_slashes c.args.stars.strict)
    c.args.behind start)
    (λ start h. subst (λ z. IsDrawn c.args.self.now c.draw_one.new.self z c.args.behind start)
    (strict_stars c.args.stars.crosses_slashes c.args.stars.strict c.if-stars-2.true)
    (drawn_cat c.args.self.now c.draw_run.new.self c.draw_one.new.self (one not_slash) (run (in_stars c.args.stars.crosses_slashes))
    c.args.behind c.in_ok-run.run' start drawn (h not_slash tt (λ b lt. refl))))
    c.draw_one.ensures.drawn

pub returns-else-stars-2 : goal.returns-else-stars-2
returns-else-stars-2 c =
    let facts : IsKnown c.args.self.now c.if-stars.takes × TakesSet c.args.self.now c.if-stars.takes
    (in_stars c.args.stars.crosses_slashes) =
    elim c.if-stars.branch [
      | then-stars w ↦ stars_all c.args.self.now c.args.stars.crosses_slashes c.if-stars.takes w.if-stars.true w.takes-is
      | else-stars w ↦ stars_some c.args.self.now c.args.stars.crosses_slashes c.if-stars.takes w.if-stars.false w.takes-is
    ] in
    subst (λ z. IsDrawn c.args.self.now c.draw_run.new.self z c.args.behind c.in_ok-run.run')
    (free_stars c.args.stars.crosses_slashes c.args.stars.strict c.if-stars-2.false)
    (c.in_ok-run.ensures.drawn (in_stars c.args.stars.crosses_slashes) facts.0 facts.1)
