-- One more name has its state.
use Rattle.std.proofs.Common.{◌≡◌, ◌+◌, ◌-◌, ◌<◌, ◌∙◌, length, length-set, get_or, ap, arith}
use Rattle.std.proofs.lemmas.Option.{slice_get_within}
use Rattle.table_batches.specs.Batches.{look_ups_of_names}
use Rattle.table_batches.proofs.NameLookUps.{no_fewer, one_more}
use Rattle.table_batches.proofs.Sides.{part_long, put_more}
use Rattle.table_batches.proofs.batches.run_each.Goals as goal

pub run_from-requires-clause-look_ups : goal.run_from-requires-clause-look_ups
run_from-requires-clause-look_ups g c =
    let t = g.E.Entries.table c.args.entries.now in
    let text = c.args.text.now in
    let offsets = c.args.offsets.now in
    let count = length c.args.states.now in
    let i = c.loop-rest.rest in
    let lt : i + 1 + (count - (i + 1)) ≡ count = omega (arith, c.loop-rest-test.true) in
    omega (
      arith,
      one_more t text offsets i,
      no_fewer t text offsets (i + 1) (count - (i + 1)),
      ap (look_ups_of_names t text offsets) lt,
      c.loop-rest.invariant.look_ups,
      c.loop-rest.invariant.ascended,
      c.requires.look_ups,
    )

pub loop-rest-preserved : goal.loop-rest-preserved
loop-rest-preserved g c =
    let t = g.E.Entries.table c.args.entries.now in
    let text = c.args.text.now in
    let offsets = c.args.offsets.now in
    let i = c.loop-rest.rest in
    let lt : i < length c.loop-rest.states = omega (arith, c.loop-rest.invariant.long, c.loop-rest-test.true) in
    let before : i < length c.args.states.now = omega (arith, c.loop-rest-test.true) in
    let part = part_long text (get_or offsets i 0) (get_or offsets (i + 1) 0) (c.requires.offsets.ascend i before)
    (c.requires.offsets.within (i + 1) (omega (arith, before))) in
    record {
      long = length-set c.loop-rest.states i c.run_from.result ∙ c.loop-rest.invariant.long;
      ascended = omega (arith, c.loop-rest.invariant.ascended, c.requires.offsets.ascend i before);
      done = put_more t text offsets c.loop-rest.states i c.run_from.result
          c.loop-rest.invariant.done lt (c.run_from.ensures.last, c.run_from.ensures.there);
      steps = omega (
        arith,
        c.run_from.ensures.steps,
        c.loop-rest.invariant.steps,
        c.requires.offsets.ascend i before,
        part,
      );
      look_ups = omega (
        arith,
        c.run_from.ensures.look_ups,
        c.loop-rest.invariant.look_ups,
        c.requires.offsets.ascend i before,
        part,
        one_more t text offsets i,
      );
    }

pub returns-clause-states : goal.returns-clause-states
returns-clause-states g c = λ i s at. c.loop-rest.invariant.done i s
    (omega (arith, c.loop-rest-test.false, c.loop-rest.invariant.long, slice_get_within c.loop-rest.states i s at)) at
