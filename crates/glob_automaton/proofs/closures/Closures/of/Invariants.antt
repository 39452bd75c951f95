-- The closures of the entries so far.
use Rattle.std.proofs.Common.{◌≡◌, length}
use Rattle.glob_automaton.specs.inner.GatheredSets.{AreClosures}
use Rattle.glob_automaton.specs.inner.PlaceBits.{AreWithin}
use Rattle.glob_automaton.proofs.closures.Closures.of.Given as goal

abbrev pub invariant-loop-entry : goal.invariant-loop-entry
invariant-loop-entry l = record {
  long : length l.closures.closures.items ≡ l.entry;
  each : AreClosures l.chart.entries.items l.closures;
  within : AreWithin l.bits;
}
