-- Each name has gone on, and each byte that it has gone was one of those left.
use Rattle.std.proofs.Common.{rules, refl, arith}
use Rattle.table_batches.proofs.EightSeats.{left_on, seats_on}
use Rattle.table_batches.proofs.seats.advance.Goals as goal

pub side_by_side-reached-requires-clause-room : goal.side_by_side-reached-requires-clause-room
side_by_side-reached-requires-clause-room g c = omega (
  arith,
  c.requires.room,
  left_on c.args.offsets.now c.args.seats.now.names c.args.seats.now.places c.shortest_left-shared.result 8
      c.shortest_left-shared.ensures (omega arith),
)

pub returns-clause-seats : goal.returns-clause-seats
returns-clause-seats g c = record {
  names_long = c.requires.seats.names_long;
  places_long = refl;
  states_long = search rules;
  each = seats_on (g.E.Entries.table c.args.entries.now) c.args.text.now c.args.offsets.now c.args.seats.now.names
      c.args.seats.now.places c.args.seats.now.states c.side_by_side-reached.result c.args.count c.shortest_left-shared.result
      c.requires.seats.each c.side_by_side-reached.ensures.there c.shortest_left-shared.ensures c.side_by_side-reached.ensures.led;
}

pub returns-clause-steps : goal.returns-clause-steps
returns-clause-steps g c = omega (
  arith,
  c.side_by_side-reached.ensures.steps,
  left_on c.args.offsets.now c.args.seats.now.names c.args.seats.now.places c.shortest_left-shared.result 8
      c.shortest_left-shared.ensures (omega arith),
)
