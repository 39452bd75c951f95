-- A name that has ended keeps its state, and the next one takes its seat.
use Rattle.std.proofs.Common.{◌+◌, ◌<◌, ◌≤◌, ◌∙◌, length, length-set, get_or, arith}
use Rattle.table_batches.proofs.EightSeats.{all_taken, done_taken, ended, new_seat, seats_taken}
use Rattle.table_batches.proofs.seats.refill.Goals as goal

pub loop-seat-preserved : goal.loop-seat-preserved
loop-seat-preserved g c =
    let t = g.E.Entries.table c.args.entries.now in
    let text = c.args.text.now in
    let offsets = c.args.offsets.now in
    let count = length c.args.states.now in
    let names = c.loop-seat.names in
    let places = c.loop-seat.places in
    let seat = c.loop-seat.seat in
    let next = c.loop-seat.next in
    let is = c.loop-seat.invariant in
    let more : next < count = omega (arith, c.if-next-count.false) in
    let sits = is.each seat c.loop-seat-test.true in
    let over : get_or offsets (get_or names seat 0 + 1) 0 ≤ get_or places seat 0 = omega (arith, c.if-places-seat.false) in
    record {
      names_long = length-set names seat next ∙ is.names_long;
      places_long = length-set places seat (get_or offsets next 0) ∙ is.places_long;
      states_long = length-set c.loop-seat.reached seat 1 ∙ is.states_long;
      long = length-set c.loop-seat.states (get_or names seat 0) (get_or c.loop-seat.reached seat 0) ∙ is.long;
      eight = omega (arith, is.eight);
      there = omega (arith, more);
      each = seats_taken t text offsets names places c.loop-seat.reached count next seat is.each
          (new_seat t text offsets count next c.requires.offsets c.requires.start more) is.names_long is.places_long is.states_long
          c.loop-seat-test.true;
      done = done_taken t text offsets names c.loop-seat.states next seat (get_or c.loop-seat.reached seat 0) is.done is.names_long
          c.loop-seat-test.true (omega (arith, more, is.long)) (omega (arith, sits.named, is.long))
          (ended t text offsets count (get_or names seat 0) (get_or places seat 0) (get_or c.loop-seat.reached seat 0) sits over);
      left = omega (
        arith,
        is.left,
        all_taken offsets names places seat next is.names_long is.places_long c.loop-seat-test.true over,
        c.requires.offsets.ascend next more,
      );
    }
