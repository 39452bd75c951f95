-- The states after the bytes so far, and eight look-ups for each place.
use Rattle.std.proofs.Common.{◌≡◌, ◌+◌, ◌*◌}
use Rattle.table_verifier.specs.Eight.{AreThere}
use Rattle.table_batches.specs.inner.Seats.{AreLed}
use Rattle.table_batches.proofs.batches.side_by_side.Given as goal

abbrev pub invariant-loop-i : goal.invariant-loop-i
invariant-loop-i g l = record {
  there : AreThere (g.E.Entries.table l.entries) l.reached;
  led : AreLed (g.E.Entries.table l.entries) l.text l.places l.i l.fn.states l.reached;
  steps : l.counted ≡ l.fn.steps + 8 * l.i;
}
