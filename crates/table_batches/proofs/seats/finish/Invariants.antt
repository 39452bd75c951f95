-- The names of the seats so far have their states.
use Rattle.std.proofs.Common.{◌≡◌, ◌+◌, length}
use Rattle.table_batches.specs.inner.Seats.{AreDone, left_of}
use Rattle.table_batches.proofs.seats.finish.Given as goal

abbrev pub invariant-loop-k : goal.invariant-loop-k
invariant-loop-k g l = record {
  long : length l.states ≡ length l.fn.states;
  done : AreDone (g.E.Entries.table l.entries) l.text l.offsets l.next l.seats.names l.k l.states;
  steps : l.steps ≡ l.fn.steps + left_of l.offsets l.seats.names l.seats.places l.k;
}
