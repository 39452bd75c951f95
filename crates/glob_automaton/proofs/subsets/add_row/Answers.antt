-- An edge continues the open range, or ends it and opens another. The bytes before it have the open range's target.
use Rattle.std.proofs.Common.{rules, ◌≡◌, ◌-◌, ◌+◌, None, refl, subst, arith}
use Rattle.automaton_rows.specs.laws.Fronts.{none_yet}
use Rattle.glob_automaton.specs.inner.States.{lists_of, IsTargetOf}
use Rattle.glob_automaton.proofs.RangeSteps.{IsWritten, like_those, one_alike, same_range, one_more, whole_row}
use Rattle.glob_automaton.proofs.RowSteps.{none_shared}
use Rattle.glob_automaton.proofs.SetPlaces.{set_places}
use Rattle.glob_automaton.proofs.SetSteps.{keeps_on}
use Rattle.glob_automaton.proofs.subsets.add_row.Goals as goal

pub of-marks-requires-clause-set : goal.of-marks-requires-clause-set
of-marks-requires-clause-set c =
    set_places c.args.chart.now (lists_of c.args.sets.now) c.args.set.now c.requires.chart c.requires.sets.0 c.requires.set

pub shared_target-requires-clause-others : goal.shared_target-requires-clause-others
shared_target-requires-clause-others c =
    none_shared c.args.chart.now c.args.classes.now.least c.of-marks.result.named c.args.set.now 256 (lists_of c.args.sets.now) refl

pub loop-byte-init : goal.loop-byte-init
loop-byte-init c =
    let new = lists_of c.shared_target.new.sets in
    record {
      some = omega arith;
      small = omega arith;
      gathering = c.in_ok-target.ensures.gathering;
      sets = c.in_ok-target.ensures.sets;
      kept = c.in_ok-target.ensures.kept;
      others = c.in_ok-target.ensures.others;
      written = (
        0,
        omega arith,
        none_yet (IsTargetOf c.args.chart.now new c.args.set.now) c.args.ranges.now.items,
        one_alike c.args.chart.now c.args.set.now new c.in_ok-target.target c.in_ok-target.ensures.target,
      );
    }

pub loop-byte-preserved-then-next-target : goal.loop-byte-preserved-then-next-target
loop-byte-preserved-then-next-target c =
    let chart = c.args.chart.now in
    let set = c.args.set.now in
    let sets = lists_of c.loop-byte.sets in
    let new = lists_of c.shared_target-in-Some.new.sets in
    let from = c.loop-byte.from in
    let byte = c.in-Some.byte in
    let next = c.in-Some.ensures.some in
    let up : from + (byte - from) ≡ byte = omega (arith, next.after) in
    let written : IsWritten chart set sets c.args.ranges.now.items c.loop-byte.ranges.items c.loop-byte.target byte =
    subst (IsWritten chart set sets c.args.ranges.now.items c.loop-byte.ranges.items c.loop-byte.target) up
    (like_those chart set sets c.args.classes.now.least c.of-marks.result.named c.requires.chart c.requires.alike
    c.of-marks.ensures.named c.args.ranges.now.items c.loop-byte.ranges.items c.loop-byte.target from (byte - from)
    (omega (arith, up, next.small))
    (λ b le lt. c.of-marks.ensures.marks.like b (omega (arith, le, c.loop-byte.invariant.some)) (omega (arith, lt, up, next.small))
    (next.none_before b le (omega (arith, lt, up)))) c.loop-byte.invariant.written) in
    record {
      some = omega arith;
      small = omega (arith, next.small);
      gathering = c.in_ok-next.ensures.gathering;
      sets = c.in_ok-next.ensures.sets;
      kept = keeps_on (lists_of c.args.sets.now) sets new c.loop-byte.invariant.kept c.in_ok-next.ensures.kept;
      others = c.in_ok-next.ensures.others;
      written = same_range chart set sets new c.in_ok-next.ensures.kept c.args.ranges.now.items c.loop-byte.ranges.items
          c.loop-byte.target c.in_ok-next.next byte written c.if-next-target.true c.in_ok-next.ensures.target;
    }

pub loop-byte-preserved : goal.loop-byte-preserved
loop-byte-preserved c =
    let chart = c.args.chart.now in
    let set = c.args.set.now in
    let sets = lists_of c.loop-byte.sets in
    let new = lists_of c.shared_target-in-Some.new.sets in
    let from = c.loop-byte.from in
    let byte = c.in-Some.byte in
    let next = c.in-Some.ensures.some in
    let up : from + (byte - from) ≡ byte = omega (arith, next.after) in
    let written : IsWritten chart set sets c.args.ranges.now.items c.loop-byte.ranges.items c.loop-byte.target byte =
    subst (IsWritten chart set sets c.args.ranges.now.items c.loop-byte.ranges.items c.loop-byte.target) up
    (like_those chart set sets c.args.classes.now.least c.of-marks.result.named c.requires.chart c.requires.alike
    c.of-marks.ensures.named c.args.ranges.now.items c.loop-byte.ranges.items c.loop-byte.target from (byte - from)
    (omega (arith, up, next.small))
    (λ b le lt. c.of-marks.ensures.marks.like b (omega (arith, le, c.loop-byte.invariant.some)) (omega (arith, lt, up, next.small))
    (next.none_before b le (omega (arith, lt, up)))) c.loop-byte.invariant.written) in
    record {
      some = omega arith;
      small = omega (arith, next.small);
      gathering = c.in_ok-next.ensures.gathering;
      sets = c.in_ok-next.ensures.sets;
      kept = keeps_on (lists_of c.args.sets.now) sets new c.loop-byte.invariant.kept c.in_ok-next.ensures.kept;
      others = c.in_ok-next.ensures.others;
      written = one_more chart set sets new c.in_ok-next.ensures.kept c.args.ranges.now.items c.loop-byte.ranges.items
          c.keep.new.list.items c.loop-byte.target c.in_ok-next.next byte next.small written c.in_ok-keep.ensures
          c.in_ok-next.ensures.target;
    }

pub returns-clause-row : goal.returns-clause-row
returns-clause-row c =
    let chart = c.args.chart.now in
    let set = c.args.set.now in
    let sets = lists_of c.loop-byte.sets in
    let from = c.loop-byte.from in
    let none : c.next_from.result ≡ None = search rules in
    let up : from + (256 - from) ≡ 256 = omega (arith, c.loop-byte.invariant.small) in
    whole_row chart set sets c.args.ranges.now.items c.loop-byte.ranges.items c.keep-2.new.list.items c.loop-byte.target
    (from + (256 - from)) up
    (like_those chart set sets c.args.classes.now.least c.of-marks.result.named c.requires.chart c.requires.alike
    c.of-marks.ensures.named c.args.ranges.now.items c.loop-byte.ranges.items c.loop-byte.target from (256 - from)
    (omega (arith, up))
    (λ b le lt. c.of-marks.ensures.marks.like b (omega (arith, le, c.loop-byte.invariant.some)) (omega (arith, lt, up))
    (c.next_from.ensures.none none b le (omega (arith, lt, up)))) c.loop-byte.invariant.written)
    c.in_ok-keep-2.ensures
