-- What is live after each place that takes the byte comes in.
use Rattle.std.proofs.Common.{sym, ◌∙◌, ◌↔◌, ℕ, ◌+◌, arith, subst}
use Rattle.glob_automaton.specs.inner.GatheredSets.{IsGathering, Holds}
use Rattle.glob_automaton.specs.declared.sets.Gathering.{Gathering}
use Rattle.glob_automaton.proofs.GatheringSteps.{StepsBefore, number_there, read_place, steps_more, steps_skip, steps_all}
use Rattle.glob_automaton.proofs.subsets.gather_step.Goals as goal
use Rattle.glob_automaton.proofs.subsets.gather_step.Goals.{then-takes+in_ok-enter, else-takes}

pub index-place-requires : goal.index-place-requires
index-place-requires c =
    let lt = number_there c.args.chart.now c.args.set.now c.args.byte c.requires.set c.loop-place.place-index c.loop-place-test.true in
    omega (arith, lt, c.args.chart.now.places.ok.0)

pub takes-requires : goal.takes-requires
takes-requires c =
    (c.requires.chart.1.there _ c.index-place.result.now
    (read_place c.args.chart.now c.args.set.now c.args.byte c.requires.set c.loop-place.place-index c.index-place.result.now
    c.loop-place-test.true c.index-place.ensures)).1

pub enter-requires-clause-there : goal.enter-requires-clause-there
enter-requires-clause-there c =
    (c.requires.chart.1.there _ c.index-place.result.now
    (read_place c.args.chart.now c.args.set.now c.args.byte c.requires.set c.loop-place.place-index c.index-place.result.now
    c.loop-place-test.true c.index-place.ensures)).0

pub loop-place-preserved : goal.loop-place-preserved
loop-place-preserved c =
    let read = read_place c.args.chart.now c.args.set.now c.args.byte c.requires.set c.loop-place.place-index c.index-place.result.now
    c.loop-place-test.true c.index-place.ensures in
    let Kept : Gathering → Type 0 = λ g. IsGathering c.args.chart.now g
    × ((q : ℕ) → Holds g q ↔ StepsBefore c.args.chart.now c.args.set.now c.args.byte (c.loop-place.place-index + 1) q) in
    elim c.if-takes.branch [
      | then-takes+in_ok-enter w ↦ subst Kept (sym w.gathering-is) (
        w.in_ok-enter.ensures.gathering,
        steps_more c.args.chart.now c.args.set.now c.args.byte (Holds c.loop-place.gathering) (Holds w.enter.new.self)
            c.loop-place.place-index
            c.index-place.result.now c.loop-place-test.true read (sym c.takes.ensures ∙ w.if-takes.true) c.loop-place.invariant.1
            w.in_ok-enter.ensures.places,
      )
      | else-takes w ↦ subst Kept (sym w.gathering-is) (
        c.loop-place.invariant.0,
        steps_skip c.args.chart.now c.args.set.now c.args.byte (Holds c.loop-place.gathering) c.loop-place.place-index
            c.index-place.result.now read (sym c.takes.ensures ∙ w.if-takes.false) c.loop-place.invariant.1,
      )
    ]

pub returns-clause-step : goal.returns-clause-step
returns-clause-step c =
    steps_all c.args.chart.now c.args.set.now c.args.byte (Holds c.loop-place.gathering) c.read_off.new.self.places.items
    c.loop-place.place-index c.loop-place-test.false c.loop-place.invariant.1 c.in_ok-read_off.ensures.sorted
    c.in_ok-read_off.ensures.places
