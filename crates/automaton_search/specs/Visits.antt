-- What names lead three automata to.
use Rattle.std.specs.Prelude.{◌≡◌, ℕ, ◌<◌, List, [], length, Some, slice_get}
use Rattle.names.specs.Paths.{IsName}
use Rattle.automaton_rows.specs.Automata.{Automaton, target, state_after}
use Rattle.automaton_search.specs.declared.fault.SearchFault.{SearchFault}
use Rattle.automaton_search.specs.declared.fault.SearchFault.TheVariants.{TooManyStates, NoMemory}
use Rattle.automaton_search.specs.declared.states.States.{States}
use Rattle.automaton_search.specs.Order.{IsLess, IsAtMost}

-- the states after these bytes
abbrev pub states_after : Automaton → Automaton → Automaton → List ℕ → States
states_after a b c bytes = record { first = state_after a bytes; second = state_after b bytes; third = state_after c bytes }

abbrev pub start_states : Automaton → Automaton → Automaton → States
start_states a b c = states_after a b c []

-- the states after one more byte
abbrev pub next_states : Automaton → Automaton → Automaton → States → ℕ → States
next_states a b c s byte = record { first = target a s.first byte; second = target b s.second byte; third = target c s.third byte }

-- visits: states that were reached, and a name that leads to each
pub record VisitsValue : Type 0 where
  pub states : List States
  pub names : List (List ℕ)

-- the visit with this index
abbrev pub IsVisit : VisitsValue → ℕ → States → List ℕ → Type 0
IsVisit visits i s name = (slice_get visits.states i ≡ Some s) × (slice_get visits.names i ≡ Some name)

-- states of these automata
abbrev pub AreStatesOf : Automaton → Automaton → Automaton → States → Type 0
AreStatesOf a b c s = (s.first < length a.rows) × (s.second < length b.rows) × (s.third < length c.rows)

-- no two are the same
abbrev pub AreDistinct : {K : Type 0} → List K → Type 0
AreDistinct {K} all = (i j : ℕ) (s : K) → i < j → slice_get all i ≡ Some s → ¬ (slice_get all j ≡ Some s)

-- All that names lead to, each once, with the least name that leads there, by names in ascending order.
pub record AreAllVisits (a b c : Automaton) (visits : VisitsValue) : Type 0 where
  pub each : length visits.names ≡ length visits.states
  pub named : (i : ℕ) (s : States) (name : List ℕ) → IsVisit visits i s name → IsName name × (s ≡ states_after a b c name)
  pub there : (i : ℕ) (s : States) → slice_get visits.states i ≡ Some s → AreStatesOf a b c s
  pub distinct : AreDistinct visits.states
  pub ascending : (i j : ℕ) (name other : List ℕ) → i < j → slice_get visits.names i ≡ Some name →
      slice_get visits.names j ≡ Some other → IsLess name other
  pub complete : (name : List ℕ) → IsName name → (i : ℕ) × (least : List ℕ) × IsVisit visits i (states_after a b c name) least
      × IsAtMost least name

-- the most of them
abbrev pub most_visits : ℕ
most_visits = 4194304

-- different states, and names lead to each
pub record AreReached (a b c : Automaton) (all : List States) : Type 0 where
  pub distinct : AreDistinct all
  pub reached : (i : ℕ) (s : States) → slice_get all i ≡ Some s → (name : List ℕ) × IsName name × (s ≡ states_after a b c name)

-- why there is none
abbrev pub IsSearchFault : Automaton → Automaton → Automaton → SearchFault → Type 0
IsSearchFault a b c TooManyStates = (all : List States) × AreReached a b c all × (most_visits < length all)
IsSearchFault a b c NoMemory = Unit {0}
