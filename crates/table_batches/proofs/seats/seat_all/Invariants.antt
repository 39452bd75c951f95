-- The names before the next one have a seat, or their states; and the look-ups are those of their bytes.
use Rattle.std.proofs.Common.{◌≡◌, ◌+◌, get_or, length}
use Rattle.table_batches.specs.inner.Seats.{AreUnderWay, left_of}
use Rattle.table_batches.proofs.seats.seat_all.Given as goal

abbrev pub invariant-loop-round : goal.invariant-loop-round
invariant-loop-round g l = record {
  long : length l.states ≡ l.count;
  way : AreUnderWay (g.E.Entries.table l.entries) l.text l.offsets l.seats l.next l.states;
  steps : l.steps + left_of l.offsets l.seats.names l.seats.places 8 + get_or l.offsets 8 0
      ≡ l.fn.steps + left_of l.offsets l.fn.seats.names l.fn.seats.places 8 + get_or l.offsets l.next 0;
}
