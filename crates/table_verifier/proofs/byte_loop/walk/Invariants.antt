-- The state after the bytes so far, one step for each, and their look-ups.
use Rattle.std.proofs.Common.{◌≡◌, ◌+◌, ◌-◌, ◌<◌, ◌≤◌, Some, length, take}
use Rattle.tables.specs.Tables.{look_ups_from, state_count, state_from}
use Rattle.table_verifier.proofs.byte_loop.walk.Given as goal

abbrev pub invariant-loop-i : goal.invariant-loop-i
invariant-loop-i g l = record {
  within : l.i ≤ length l.bytes;
  there : l.state < state_count (g.E.Entries.table l.entries);
  last : state_from (g.E.Entries.table l.entries) l.start (take l.i l.bytes) ≡ Some l.state;
  steps : l.counted ≡ l.fn.steps + l.i;
  again : l.again + l.i ≡ l.fn.again + look_ups_from (g.E.Entries.table l.entries) l.start (take l.i l.bytes);
}

abbrev pub decreases-loop-i : goal.decreases-loop-i
decreases-loop-i g l = length l.bytes - l.i
