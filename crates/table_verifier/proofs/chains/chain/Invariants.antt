-- The byte leads from the state so far to the same next state, in the look-ups that are left; its depth falls.
use Rattle.std.proofs.Common.{◌≡◌, ◌+◌, ◌<◌}
use Rattle.tables.specs.Tables.{depth_of, look_ups, next_state, state_count}
use Rattle.table_verifier.proofs.chains.chain.Given as goal

abbrev pub invariant-chain : goal.invariant-chain
invariant-chain g l = record {
  there : l.at < state_count (g.E.Entries.table l.entries);
  same : next_state (g.E.Entries.table l.entries) l.at l.byte ≡ next_state (g.E.Entries.table l.entries) l.state l.byte;
  counted : l.lookups + look_ups (g.E.Entries.table l.entries) l.at l.byte
      ≡ l.fn.lookups + look_ups (g.E.Entries.table l.entries) l.state l.byte;
}

abbrev pub decreases-chain : goal.decreases-chain
decreases-chain g l = depth_of (g.E.Entries.table l.entries) l.at
