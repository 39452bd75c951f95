-- The names before the next one have a seat, or their states; and as many bytes are left, but for those of names that took a seat.
use Rattle.std.proofs.Common.{◌≡◌, ◌+◌, ◌≤◌, get_or, length}
use Rattle.table_batches.specs.inner.Seats.{AreDone, AreEach, left_of}
use Rattle.table_batches.proofs.seats.refill.Given as goal

abbrev pub invariant-loop-seat : goal.invariant-loop-seat
invariant-loop-seat g l = record {
  names_long : length l.names ≡ 8;
  places_long : length l.places ≡ 8;
  states_long : length l.reached ≡ 8;
  long : length l.states ≡ l.count;
  eight : 8 ≤ l.next;
  there : l.next ≤ l.count;
  each : AreEach (g.E.Entries.table l.entries) l.text l.offsets l.count l.names l.places l.reached;
  done : AreDone (g.E.Entries.table l.entries) l.text l.offsets l.next l.names 0 l.states;
  left : left_of l.offsets l.names l.places 8 + get_or l.offsets l.fn.next 0
      ≡ left_of l.offsets l.fn.seats.names l.fn.seats.places 8 + get_or l.offsets l.next 0;
}
