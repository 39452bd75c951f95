-- The states so far are packed.
use Rattle.std.proofs.Common.{◌≡◌, ◌≤◌, length}
use Rattle.tables.specs.Tables.{table_value}
use Rattle.table_image.specs.inner.FirstBases.{AreStarts}
use Rattle.table_image.specs.inner.PackSteps.{IsPacked}
use Rattle.table_image.proofs.packer.pack_states.Given as goal

abbrev pub invariant-loop-state : goal.invariant-loop-state
invariant-loop-state l = record {
  same : l.packing.table.records.items ≡ l.packing.numbers.keys;
  bound : l.packing.table.depth_bound ≤ l.most_depth;
  counts : length l.packing.counts.items ≡ length l.dfa.rows;
  starts : AreStarts l.packing.taken l.packing.starts;
  packed : IsPacked l.dfa (table_value l.packing.table) l.packing.taken l.state;
}
