-- The name of this visit and the bytes so far, last first, are the name that is asked for.
use Rattle.std.proofs.Common.{◌≡◌, ◌<◌, ◌++◌, ℕ, List, reverse, Some, length, slice_get}
use Rattle.automaton_search.specs.inner.Trails.{AreNames}
use Rattle.automaton_search.proofs.visit_name.name_of.Given as goal

abbrev pub invariant-loop-at : goal.invariant-loop-at
invariant-loop-at l = record {
  there : l.at < length l.trails;
  so_far : (names : List (List ℕ)) → AreNames l.trails names → (name : List ℕ) × (slice_get names l.at ≡ Some name)
      × (slice_get names l.index ≡ Some (name ++ reverse l.bytes.items));
}

abbrev pub decreases-loop-at : goal.decreases-loop-at
decreases-loop-at l = l.at
