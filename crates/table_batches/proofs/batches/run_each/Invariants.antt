-- The names so far have their states, and their look-ups are counted.
use Rattle.std.proofs.Common.{◌≡◌, ◌+◌, ◌≤◌, get_or, length}
use Rattle.table_batches.specs.Batches.{look_ups_of_names}
use Rattle.table_batches.specs.inner.Seats.{AreAfterTo}
use Rattle.table_batches.proofs.batches.run_each.Given as goal

abbrev pub invariant-loop-rest : goal.invariant-loop-rest
invariant-loop-rest g l = record {
  long : length l.states ≡ l.count;
  ascended : get_or l.offsets l.first 0 ≤ get_or l.offsets l.rest 0;
  done : AreAfterTo (g.E.Entries.table l.entries) l.text l.offsets l.rest l.states;
  steps : l.steps + get_or l.offsets l.first 0 ≡ l.fn.steps + get_or l.offsets l.rest 0;
  look_ups : l.again + get_or l.offsets l.rest 0 + look_ups_of_names (g.E.Entries.table l.entries) l.text l.offsets l.first
      ≡ l.fn.again + look_ups_of_names (g.E.Entries.table l.entries) l.text l.offsets l.rest + get_or l.offsets l.first 0;
}
