-- All three rows are at this byte, and so is the walk.
use Rattle.std.proofs.Common.{◌≡◌, ◌-◌, ◌<◌, ◌≤◌, ℕ, Some, length, slice_get}
use Rattle.automaton_rows.specs.Automata.{target}
use Rattle.automaton_rows.specs.Rows.{target_in, IsRowFrom}
use Rattle.automaton_search.specs.Order.{place_of}
use Rattle.automaton_search.specs.Visits.{most_visits, next_states, start_states}
use Rattle.automaton_search.specs.inner.Walks.{AreKept, IsWalkAt, states_of}
use Rattle.automaton_search.proofs.walk.reach_stretch.Given as goal

abbrev pub invariant-loop-one : goal.invariant-loop-one
invariant-loop-one l = record {
  after : l.stretch.first ≤ l.from;
  before : l.from ≤ l.stretch.last;
  one : IsRowFrom l.from l.one;
  two : IsRowFrom l.from l.two;
  three : IsRowFrom l.from l.three;
  one_targets : (c : ℕ) → l.from ≤ c → c < 256 → target_in l.one c ≡ target l.first l.fn.states.first c;
  two_targets : (c : ℕ) → l.from ≤ c → c < 256 → target_in l.two c ≡ target l.second l.fn.states.second c;
  three_targets : (c : ℕ) → l.from ≤ c → c < 256 → target_in l.three c ≡ target l.third l.fn.states.third c;
  few : length (states_of l.walk) ≤ most_visits;
  walk : IsWalkAt (next_states l.first l.second l.third) (start_states l.first l.second l.third) (states_of l.walk)
      l.walk.trails.items l.index (place_of l.from);
  here : slice_get (states_of l.walk) l.index ≡ Some l.fn.states;
  kept : AreKept (states_of l.fn.walk) (states_of l.walk);
}

abbrev pub decreases-loop-one : goal.decreases-loop-one
decreases-loop-one l = 256 - l.from
