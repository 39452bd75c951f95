-- The bytes so far stay in the state, in one look-up each.
use Rattle.std.proofs.Common.{◌≡◌, ◌+◌, ◌-◌, ◌<◌, Some, take}
use Rattle.tables.specs.Tables.{look_ups_from, state_from}
use Rattle.table_verifier.proofs.byte_loop.leave.Given as goal

abbrev pub invariant-loop-i : goal.invariant-loop-i
invariant-loop-i g l = record {
  on : l.from < l.i;
  here : state_from (g.E.Entries.table l.entries) l.start (take l.i l.bytes) ≡ Some l.at.state;
  steps : l.steps ≡ l.fn.steps + (l.i - l.from);
  counted : l.again ≡ l.fn.again;
  found : look_ups_from (g.E.Entries.table l.entries) l.start (take l.i l.bytes)
      ≡ look_ups_from (g.E.Entries.table l.entries) l.start (take l.from l.bytes) + (l.i - l.from);
}
