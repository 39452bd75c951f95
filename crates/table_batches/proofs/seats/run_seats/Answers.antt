-- The first eight names have the seats; and each look-up is of a byte that was left.
use Rattle.std.proofs.Common.{ℕ, ◌<◌, ◌∙◌, ap, sym, subst, get_or, length, arith}
use Rattle.std.proofs.lemmas.List.Elements.{All-from_get_or}
use Rattle.names.specs.Bytes.{are_bytes}
use Rattle.table_batches.specs.Batches.{look_ups_of_names}
use Rattle.table_batches.specs.inner.Seats.{AreDone, AreUnderWay}
use Rattle.table_batches.proofs.NameLookUps.{names_flat}
use Rattle.table_batches.proofs.EightSeats.{left_first, under_way}
use Rattle.table_batches.proofs.seats.run_seats.Goals as goal

pub advance-requires-clause-seats : goal.advance-requires-clause-seats
advance-requires-clause-seats g c =
    (under_way (g.E.Entries.table c.args.entries.now) c.args.text.now c.args.offsets.now c.args.states.now c.first_seats-seats.result
    c.requires.offsets c.requires.start c.requires.enough c.first_seats-seats.ensures).each

pub advance-requires-clause-room : goal.advance-requires-clause-room
advance-requires-clause-room g c = omega (
  arith,
  c.requires.room,
  c.requires.offsets.within 8 c.requires.enough,
  left_first c.args.text.now c.args.offsets.now (length c.args.states.now) c.first_seats-seats.result c.requires.offsets c.requires.enough
      c.first_seats-seats.ensures,
)

pub seat_all-next-requires-clause-way : goal.seat_all-next-requires-clause-way
seat_all-next-requires-clause-way g c =
    let t = g.E.Entries.table c.args.entries.now in
    let way : AreUnderWay t c.args.text.now c.args.offsets.now c.first_seats-seats.result 8 c.args.states.now =
    under_way t c.args.text.now c.args.offsets.now c.args.states.now c.first_seats-seats.result c.requires.offsets c.requires.start
    c.requires.enough c.first_seats-seats.ensures in
    record {
      each = c.advance.ensures.seats;
      eight = way.eight;
      there = way.there;
      done = subst (λ names. AreDone t c.args.text.now c.args.offsets.now 8 names 0 c.args.states.now) (sym c.advance.ensures.names)
          way.done;
    }

pub seat_all-next-requires-clause-room : goal.seat_all-next-requires-clause-room
seat_all-next-requires-clause-room g c = omega (
  arith,
  c.requires.room,
  c.requires.offsets.within 8 c.requires.enough,
  c.advance.ensures.steps,
  left_first c.args.text.now c.args.offsets.now (length c.args.states.now) c.first_seats-seats.result c.requires.offsets c.requires.enough
      c.first_seats-seats.ensures,
)

pub advance-requires-2-clause-room : goal.advance-requires-2-clause-room
advance-requires-2-clause-room g c = omega (
  arith,
  c.requires.room,
  c.requires.offsets.within 8 c.requires.enough,
  c.advance.ensures.steps,
  c.seat_all-next.ensures.steps,
  c.requires.offsets.within c.seat_all-next.result (omega (arith, c.seat_all-next.ensures.way.there, c.seat_all-next.ensures.long)),
  left_first c.args.text.now c.args.offsets.now (length c.args.states.now) c.first_seats-seats.result c.requires.offsets c.requires.enough
      c.first_seats-seats.ensures,
)

pub finish-requires-clause-room : goal.finish-requires-clause-room
finish-requires-clause-room g c = omega (
  arith,
  c.requires.room,
  c.requires.offsets.within 8 c.requires.enough,
  c.advance.ensures.steps,
  c.seat_all-next.ensures.steps,
  c.advance-2.ensures.steps,
  c.requires.offsets.within c.seat_all-next.result (omega (arith, c.seat_all-next.ensures.way.there, c.seat_all-next.ensures.long)),
  left_first c.args.text.now c.args.offsets.now (length c.args.states.now) c.first_seats-seats.result c.requires.offsets c.requires.enough
      c.first_seats-seats.ensures,
)

pub run_each-requires-clause-look_ups : goal.run_each-requires-clause-look_ups
run_each-requires-clause-look_ups g c =
    let t = g.E.Entries.table c.args.entries.now in
    let text = c.args.text.now in
    let fits : are_bytes text = All-from_get_or (λ (b : ℕ). b < 256) text 0 (λ i lt. omega (arith, c.type_inv.text i)) in
    let offs = c.requires.offsets in
    let count = length c.args.states.now in
    let flat = names_flat t text c.args.offsets.now count count
    (λ s bytes there are. c.look_ups_are_bounded.ensures t s bytes c.stay_in_bounds.ensures there are) fits c.requires.start offs
    c.requires.flat (omega arith) in
    let long = c.finish.ensures.long ∙ c.seat_all-next.ensures.long in
    let same = ap (look_ups_of_names t text c.args.offsets.now) long in
    omega (arith, flat, same, c.new.ensures, offs.within count (omega arith), c.requires.room)

pub run_each-requires-clause-steps : goal.run_each-requires-clause-steps
run_each-requires-clause-steps g c = omega (
  arith,
  c.requires.room,
  c.requires.offsets.within 8 c.requires.enough,
  c.advance.ensures.steps,
  c.seat_all-next.ensures.steps,
  c.advance-2.ensures.steps,
  c.finish.ensures.steps,
  c.requires.offsets.within c.seat_all-next.result (omega (arith, c.seat_all-next.ensures.way.there, c.seat_all-next.ensures.long)),
  left_first c.args.text.now c.args.offsets.now (length c.args.states.now) c.first_seats-seats.result c.requires.offsets c.requires.enough
      c.first_seats-seats.ensures,
)

pub returns-clause-steps : goal.returns-clause-steps
returns-clause-steps g c = omega (
  arith,
  c.advance.ensures.steps,
  c.seat_all-next.ensures.steps,
  c.advance-2.ensures.steps,
  c.finish.ensures.steps,
  c.run_each.ensures.steps,
  ap (λ (n : ℕ). get_or c.args.offsets.now n 0) (c.finish.ensures.long ∙ c.seat_all-next.ensures.long),
  left_first c.args.text.now c.args.offsets.now (length c.args.states.now) c.first_seats-seats.result c.requires.offsets c.requires.enough
      c.first_seats-seats.ensures,
)
