-- One more name has reached its end.
use Rattle.std.proofs.Common.{◌≡◌, ℕ, ◌+◌, ◌-◌, ◌<◌, ◌∙◌, ap, drop, refl, length-drop, length-set, length-take, get_or, take, arith}
use Rattle.std.proofs.lemmas.List.Elements.{All-from_get_or}
use Rattle.names.specs.Bytes.{are_bytes}
use Rattle.table_batches.specs.inner.Seats.{left_of}
use Rattle.table_batches.proofs.NameLookUps.{part_bytes, part_flat}
use Rattle.table_batches.proofs.Sides.{part_long}
use Rattle.table_batches.proofs.EightSeats.{done_on, left_next, left_none, left_within, whole_at}
use Rattle.table_batches.proofs.seats.finish.Goals as goal

pub loop-k-init : goal.loop-k-init
loop-k-init g c = record {
  long = refl;
  done = c.requires.way.done;
  steps = omega (arith, left_none c.args.offsets.now c.args.seats.now.names c.args.seats.now.places);
}

pub run_from-requires-clause-steps : goal.run_from-requires-clause-steps
run_from-requires-clause-steps g c =
    let offsets = c.args.offsets.now in
    let names = c.args.seats.now.names in
    let places = c.args.seats.now.places in
    let k = c.loop-k.k in
    let sits = c.requires.way.each.each k c.loop-k-test.true in
    omega (
      arith,
      c.requires.room,
      c.loop-k.invariant.steps,
      left_within offsets names places k c.loop-k-test.true,
      part_long c.args.text.now (get_or places k 0) (get_or offsets (get_or names k 0 + 1) 0) sits.ahead
          (c.requires.offsets.within (get_or names k 0 + 1) (omega (arith, sits.named))),
    )

pub run_from-requires-clause-look_ups : goal.run_from-requires-clause-look_ups
run_from-requires-clause-look_ups g c =
    let t = g.E.Entries.table c.args.entries.now in
    let text = c.args.text.now in
    let begin = get_or c.args.seats.now.places c.loop-k.k 0 in
    let long = get_or c.args.offsets.now (get_or c.args.seats.now.names c.loop-k.k 0 + 1) 0 - begin in
    let fits : are_bytes text =
    All-from_get_or (λ (b : ℕ). b < 256) text 0 (λ i lt. omega (arith, c.type_inv.text i)) in
    let sits = c.requires.way.each.each c.loop-k.k c.loop-k-test.true in
    let flat = part_flat t (get_or c.args.seats.now.states c.loop-k.k 0) (take long (drop begin text))
    (λ s bytes there are. c.look_ups_are_bounded.ensures t s bytes c.stay_in_bounds.ensures there are)
    (part_bytes text begin long fits) sits.there c.requires.flat in
    omega (arith, flat, c.new.ensures, length-take long (drop begin text), length-drop begin text)

pub loop-k-preserved : goal.loop-k-preserved
loop-k-preserved g c =
    let t = g.E.Entries.table c.args.entries.now in
    let text = c.args.text.now in
    let offsets = c.args.offsets.now in
    let names = c.args.seats.now.names in
    let places = c.args.seats.now.places in
    let k = c.loop-k.k in
    let name = get_or names k 0 in
    let sits = c.requires.way.each.each k c.loop-k-test.true in
    record {
      long = length-set c.loop-k.states name c.run_from.result ∙ c.loop-k.invariant.long;
      done = done_on t text offsets names c.loop-k.states c.args.next k c.run_from.result c.loop-k.invariant.done
          (omega (arith, c.requires.way.there, c.loop-k.invariant.long)) (omega (arith, sits.named, c.loop-k.invariant.long)) (
            whole_at t text (get_or offsets name 0) (get_or places k 0) (get_or offsets (name + 1) 0)
                (get_or c.args.seats.now.states k 0) c.run_from.result sits.behind sits.ahead sits.led c.run_from.ensures.last,
            c.run_from.ensures.there,
          );
      steps = omega (
        arith,
        c.run_from.ensures.steps,
        c.loop-k.invariant.steps,
        left_next offsets names places k,
        part_long text (get_or places k 0) (get_or offsets (name + 1) 0) sits.ahead
            (c.requires.offsets.within (name + 1) (omega (arith, sits.named))),
      );
    }

pub returns-clause-done : goal.returns-clause-done
returns-clause-done g c = λ i s lt at.
    c.loop-k.invariant.done i s lt (λ j from inside is. absurd (omega (arith, from, inside, c.loop-k-test.false))) at

pub returns-clause-steps : goal.returns-clause-steps
returns-clause-steps g c =
    let same : c.loop-k.k ≡ 8 = omega (arith, c.loop-k-test.false, c.loop-k.auto.k-end) in
    omega (arith, c.loop-k.invariant.steps, ap (left_of c.args.offsets.now c.args.seats.now.names c.args.seats.now.places) same)
