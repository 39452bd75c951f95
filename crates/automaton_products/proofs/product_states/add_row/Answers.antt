-- The ranges that are written have the pairs of the targets of their bytes.
use Rattle.std.proofs.Common.{◌≡◌, ◌∙◌, ◌+◌, ◌<◌, ◌≤◌, List, Some, slice_get, sym, ap, subst, arith}
use Rattle.automaton_rows.specs.declared.range.TargetRange.{TargetRange}
use Rattle.automaton_rows.specs.Rows.{IsRowAppended}
use Rattle.automaton_rows.specs.laws.Fronts.{one_range_more, last_range, IsSoFar}
use Rattle.automaton_products.specs.Products.{pairs_of, next_pair, IsReached}
use Rattle.automaton_products.specs.laws.PairLaws.{reached_within, reached_next, kept_through, kept_at}
use Rattle.automaton_products.proofs.WalkSteps.{step_pair}
use Rattle.automaton_products.proofs.product_states.add_row.Goals as goal

pub row-first-requires : goal.row-first-requires
row-first-requires c = (reached_within c.args.one.now c.args.other.now c.requires.whole_one c.requires.whole_other
    c.args.pair c.requires.met).0

pub row-second-requires : goal.row-second-requires
row-second-requires c = (reached_within c.args.one.now c.args.other.now c.requires.whole_one c.requires.whole_other
    c.args.pair c.requires.met).1

pub number_of-requires-clause-met : goal.number_of-requires-clause-met
number_of-requires-clause-met c =
    let from = c.loop-target.from in
    let last = c.min-last.result in
    let here : from ≤ last = omega (arith, c.min-last.ensures, c.head-near.ensures.here, c.head-far.ensures.here) in
    let small : from < 256 = omega (arith, here, c.min-last.type_inv) in
    subst (IsReached c.args.one.now c.args.other.now)
    (sym (step_pair c.args.one.now c.args.other.now c.args.pair c.loop-target.first.now c.loop-target.second.now from last
    c.head-near.result c.head-far.result c.from.result c.from-in-loop-target.result c.head-near.ensures.target c.head-far.ensures.target
    c.loop-target.invariant.first_targets c.loop-target.invariant.second_targets c.min-last.ensures c.from.ensures
    c.from-in-loop-target.ensures from (omega arith) here small))
    (reached_next c.args.one.now c.args.other.now c.requires.whole_one c.requires.whole_other c.args.pair from c.requires.met small)

pub returns-then-last-clause-row : goal.returns-then-last-clause-row
returns-then-last-clause-row c =
    let a = c.args.one.now in
    let b = c.args.other.now in
    let from = c.loop-target.from in
    let last = c.min-last.result in
    let old = pairs_of c.loop-target.pairs in
    let new = pairs_of c.number_of.new.pairs in
    let r : TargetRange = record { last = c.min-last.result; target = c.in_ok-target.target } in
    let here : from ≤ last = omega (arith, c.min-last.ensures, c.head-near.ensures.here, c.head-far.ensures.here) in
    subst (IsRowAppended (λ d t. slice_get new t ≡ Some (next_pair a b c.args.pair d)) c.args.ranges.now.items) (sym c.in_ok-keep.ensures)
    (last_range (λ d t. slice_get old t ≡ Some (next_pair a b c.args.pair d)) (λ d t. slice_get new t ≡ Some (next_pair a b c.args.pair d))
    (λ d t h. kept_at old new t (next_pair a b c.args.pair d) c.in_ok-target.ensures.kept h) from r here
    (λ d le within. c.in_ok-target.ensures.number ∙ ap Some
    (step_pair a b c.args.pair c.loop-target.first.now c.loop-target.second.now from last c.head-near.result c.head-far.result
    c.from.result c.from-in-loop-target.result c.head-near.ensures.target c.head-far.ensures.target
    c.loop-target.invariant.first_targets c.loop-target.invariant.second_targets c.min-last.ensures c.from.ensures
    c.from-in-loop-target.ensures d le within (omega (arith, within, c.min-last.type_inv))))
    c.args.ranges.now.items c.loop-target.ranges.items c.loop-target.invariant.so_far c.if-last.true)

pub loop-target-smaller : goal.loop-target-smaller
loop-target-smaller c =
    let here : c.loop-target.from ≤ c.min-last.result =
    omega (arith, c.min-last.ensures, c.head-near.ensures.here, c.head-far.ensures.here) in
    omega (arith, here, c.min-last.type_inv)

pub loop-target-preserved : goal.loop-target-preserved
loop-target-preserved c =
    let a = c.args.one.now in
    let b = c.args.other.now in
    let from = c.loop-target.from in
    let last = c.min-last.result in
    let old = pairs_of c.loop-target.pairs in
    let new = pairs_of c.number_of.new.pairs in
    let r : TargetRange = record { last = c.min-last.result; target = c.in_ok-target.target } in
    let here : from ≤ last = omega (arith, c.min-last.ensures, c.head-near.ensures.here, c.head-far.ensures.here) in
    let more : last < 255 = let differs = c.if-last.false in omega (arith, differs, c.min-last.type_inv) in
    record {
      pairs = c.in_ok-target.ensures.pairs;
      kept = kept_through (pairs_of c.args.pairs.now) old new c.loop-target.invariant.kept c.in_ok-target.ensures.kept;
      first = c.rest_after-first.ensures.row more;
      second = c.rest_after-second.ensures.row more;
      first_targets = λ d le small. c.rest_after-first.ensures.targets d (omega (arith, le)) ∙ c.loop-target.invariant.first_targets d
          (omega (arith, le, here)) small;
      second_targets = λ d le small. c.rest_after-second.ensures.targets d (omega (arith, le)) ∙ c.loop-target.invariant.second_targets d
          (omega (arith, le, here)) small;
      so_far = subst (λ (z : List TargetRange). IsSoFar (λ d t. slice_get new t ≡ Some (next_pair a b c.args.pair d))
          c.args.ranges.now.items z (last + 1)) (sym c.in_ok-keep.ensures)
          (one_range_more (λ d t. slice_get old t ≡ Some (next_pair a b c.args.pair d))
          (λ d t. slice_get new t ≡ Some (next_pair a b c.args.pair d))
          (λ d t h. kept_at old new t (next_pair a b c.args.pair d) c.in_ok-target.ensures.kept h) from r here
          (λ d le within. c.in_ok-target.ensures.number ∙ ap Some
          (step_pair a b c.args.pair c.loop-target.first.now c.loop-target.second.now from last c.head-near.result c.head-far.result
          c.from.result c.from-in-loop-target.result c.head-near.ensures.target c.head-far.ensures.target
          c.loop-target.invariant.first_targets c.loop-target.invariant.second_targets c.min-last.ensures c.from.ensures
          c.from-in-loop-target.ensures d le within (omega (arith, within, c.min-last.type_inv))))
          c.args.ranges.now.items c.loop-target.ranges.items c.loop-target.invariant.so_far more);
    }
