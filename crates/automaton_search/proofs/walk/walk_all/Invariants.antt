-- The walk has reached this visit.
use Rattle.std.proofs.Common.{◌<◌, ◌≤◌, length}
use Rattle.automaton_search.specs.Visits.{AreDistinct, most_visits, next_states, start_states}
use Rattle.automaton_search.specs.inner.Walks.{IsWalkAt, states_of}
use Rattle.automaton_search.proofs.walk.walk_all.Given as goal

abbrev pub invariant-loop-index : goal.invariant-loop-index
invariant-loop-index l = record {
  walk : IsWalkAt (next_states l.first l.second l.third) (start_states l.first l.second l.third) (states_of l.walk)
      l.walk.trails.items l.index 0;
  distinct : AreDistinct (states_of l.walk);
  few : length (states_of l.walk) ≤ most_visits;
  some : 0 < length (states_of l.walk);
}
