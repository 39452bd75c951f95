-- One more step.
use Rattle.std.proofs.Common.{◌∙◌, ◌<◌, ℕ, sym, subst, arith}
use Rattle.automaton_search.specs.Order.{place_of}
use Rattle.automaton_search.specs.Visits.{next_states, start_states, IsSearchFault}
use Rattle.automaton_search.specs.inner.Walks.{IsWalkAt, states_of}
use Rattle.automaton_search.specs.laws.Places.{part, place_after}
use Rattle.automaton_search.proofs.ThreeStates.{passed_on, search_fault, step_states}
use Rattle.automaton_search.proofs.WalkSteps.{one_range_more, visited_kept}
use Rattle.automaton_search.proofs.walk.reach_stretch.Goals as goal

pub returns-in_err-reach-clause-err : goal.returns-in_err-reach-clause-err
returns-in_err-reach-clause-err c =
    let first = c.args.first.now in
    let second = c.args.second.now in
    let third = c.args.third.now in
    let step = c.step_from-step in
    let targets = step_states first second third c.args.states step.result.target
    c.loop-one.one.now c.loop-one.two.now c.loop-one.three.now
    c.loop-one.from step.result.last step.ensures.first step.ensures.second step.ensures.third
    c.loop-one.invariant.one_targets c.loop-one.invariant.two_targets c.loop-one.invariant.three_targets (omega (arith, step.type_inv)) in
    passed_on c.from_residual.result c.in_err-reach.field-0.0 (IsSearchFault first second third) c.from_residual.ensures.1
    (search_fault first second third (states_of c.loop-one.walk) c.loop-one.walk.trails.items c.args.index (place_of c.loop-one.from)
    c.loop-one.invariant.walk step.result.target c.args.index c.loop-one.from c.args.states c.loop-one.invariant.here
    (omega (arith, c.requires.some, c.loop-one.invariant.after)) (omega (arith, c.requires.stretch, c.loop-one.invariant.before))
    (sym (targets c.loop-one.from (omega arith) step.ensures.here))
    c.in_err-reach.field-0.0 c.in_err-reach.ensures.err)

pub returns-then-step-stretch-clause-walk : goal.returns-then-step-stretch-clause-walk
returns-then-step-stretch-clause-walk c =
    let first = c.args.first.now in
    let second = c.args.second.now in
    let third = c.args.third.now in
    let step = c.step_from-step in
    let targets = step_states first second third c.args.states step.result.target
    c.loop-one.one.now c.loop-one.two.now c.loop-one.three.now
    c.loop-one.from step.result.last step.ensures.first step.ensures.second step.ensures.third
    c.loop-one.invariant.one_targets c.loop-one.invariant.two_targets c.loop-one.invariant.three_targets (omega (arith, step.type_inv)) in
    let last = c.args.stretch.last in
    let loop = c.loop-one.invariant in
    one_range_more (next_states first second third) (start_states first second third) (states_of c.loop-one.walk)
    c.loop-one.walk.trails.items c.args.index c.loop-one.from last
    step.result.target c.args.states (states_of c.reach.new.self) c.reach.new.self.trails.items
    loop.walk loop.here (omega (arith, c.requires.some, loop.after)) (part c.args.stretch.first c.args.stretch.last c.loop-one.from last
    c.requires.stretch loop.after loop.before (omega arith))
    (λ d from to. targets d from (omega (arith, to, c.if-step-stretch.true)))
    c.in_ok-reach.ensures.visited

pub returns-then-step-stretch-clause-kept : goal.returns-then-step-stretch-clause-kept
returns-then-step-stretch-clause-kept c j p at =
    visited_kept (states_of c.loop-one.walk) (states_of c.reach.new.self) c.loop-one.walk.trails.items c.reach.new.self.trails.items _ _
    c.in_ok-reach.ensures.visited j p (c.loop-one.invariant.kept j p at)

pub loop-one-preserved : goal.loop-one-preserved
loop-one-preserved c =
    let first = c.args.first.now in
    let second = c.args.second.now in
    let third = c.args.third.now in
    let step = c.step_from-step in
    let targets = step_states first second third c.args.states step.result.target
    c.loop-one.one.now c.loop-one.two.now c.loop-one.three.now
    c.loop-one.from step.result.last step.ensures.first step.ensures.second step.ensures.third
    c.loop-one.invariant.one_targets c.loop-one.invariant.two_targets c.loop-one.invariant.three_targets (omega (arith, step.type_inv)) in
    let last = step.result.last in
    let new = states_of c.reach.new.self in
    let loop = c.loop-one.invariant in
    let more : last < c.args.stretch.last = c.if-step-stretch.false in
    let small : last < 255 = omega (arith, more, c.requires.stretch) in
    let here = step.ensures.here in
    let kept = visited_kept (states_of c.loop-one.walk) new c.loop-one.walk.trails.items c.reach.new.self.trails.items _ _
    c.in_ok-reach.ensures.visited in
    record {
      after = omega (arith, loop.after, here);
      before = omega (arith, more);
      one = c.rest_after-one.ensures.row small;
      two = c.rest_after-two.ensures.row small;
      three = c.rest_after-three.ensures.row small;
      one_targets = λ d le small. c.rest_after-one.ensures.targets d (omega (arith, le))
          ∙ loop.one_targets d (omega (arith, le, here)) small;
      two_targets = λ d le small. c.rest_after-two.ensures.targets d (omega (arith, le))
          ∙ loop.two_targets d (omega (arith, le, here)) small;
      three_targets = λ d le small. c.rest_after-three.ensures.targets d (omega (arith, le))
          ∙ loop.three_targets d (omega (arith, le, here)) small;
      few = c.in_ok-reach.ensures.few;
      walk = subst (λ (p : ℕ). IsWalkAt (next_states first second third) (start_states first second third) new
          c.reach.new.self.trails.items c.args.index p)
          (sym (place_after c.args.stretch.first last c.args.stretch.last c.requires.stretch (omega (arith, loop.after, here)) more))
          (one_range_more (next_states first second third) (start_states first second third) (states_of c.loop-one.walk)
          c.loop-one.walk.trails.items c.args.index c.loop-one.from last
          step.result.target c.args.states new c.reach.new.self.trails.items
          loop.walk loop.here (omega (arith, c.requires.some, loop.after)) (part c.args.stretch.first c.args.stretch.last
          c.loop-one.from last c.requires.stretch loop.after here (omega (arith, more)))
          targets
          c.in_ok-reach.ensures.visited);
      here = kept c.args.index c.args.states loop.here;
      kept = λ j p at. kept j p (loop.kept j p at);
    }
