-- The bytes before this one that aren't edges are alike to those before them.
use Rattle.std.proofs.Common.{◌≡◌, ◌-◌, ◌<◌, ℕ, false}
use Rattle.glob_automaton.specs.inner.Alike.{least_of}
use Rattle.glob_automaton.specs.inner.PlaceBits.{has_place}
use Rattle.glob_automaton.proofs.bytes.edges_of.Given as goal

abbrev pub invariant-loop-byte : goal.invariant-loop-byte
invariant-loop-byte l = record {
  alike : (b : ℕ) → 0 < b → b < l.byte → has_place l.edges.words b ≡ false → least_of l.least (b - 1) ≡ least_of l.least b;
}
