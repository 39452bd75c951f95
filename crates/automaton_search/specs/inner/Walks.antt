-- A walk over states of any kind, breadth first: which are visited, and by which names.
use Rattle.std.specs.Prelude.{◌≡◌, ◌⊎◌, ℕ, ◌<◌, ◌≤◌, List, [], ◌∷◌, ◌++◌, length, Some, slice_get}
use Rattle.names.specs.Ascii as ascii
use Rattle.names.specs.Paths.{IsName}
use Rattle.automaton_search.specs.declared.fault.SearchFault.{SearchFault}
use Rattle.automaton_search.specs.declared.fault.SearchFault.TheVariants.{TooManyStates, NoMemory}
use Rattle.automaton_search.specs.declared.states.States.{States}
use Rattle.automaton_search.specs.declared.walk.Trail.{Trail}
use Rattle.automaton_search.specs.declared.walk.Walk.{Walk}
use Rattle.automaton_search.specs.Order.{IsLess, IsAtMost, place_of}
use Rattle.automaton_search.specs.Visits.{AreDistinct, most_visits}
use Rattle.automaton_search.specs.inner.Trails.{AreNames}

-- a byte of a name
abbrev pub IsNameByte : ℕ → Type 0
IsNameByte b = (0 < b) × (b < 256)

-- bytes on one side of `a`, so that their places follow one another
abbrev pub IsStretch : ℕ → ℕ → Type 0
IsStretch first last = (first ≤ last) × (last < 256) × ((ascii.letter_a ≤ first) ⊎ (last < ascii.letter_a))

-- the state after some bytes
abbrev pub led : {K : Type 0} → (K → ℕ → K) → K → List ℕ → K
led {K} next s [] = s
led {K} next s (b ∷ bytes) = led next (next s b) bytes

abbrev pub IsAt : {K : Type 0} → List K → List (List ℕ) → ℕ → K → List ℕ → Type 0
IsAt {K} states names j s name = (slice_get states j ≡ Some s) × (slice_get names j ≡ Some name)

-- a visited state, whose name is no greater than this one
abbrev pub IsMetBy : {K : Type 0} → List K → List (List ℕ) → K → List ℕ → Type 0
IsMetBy {K} states names s name = (k : ℕ) × ((least : List ℕ) × IsAt states names k s least × IsAtMost least name)

-- The walk has reached place p of the bytes of visit i: all states that the visits before it lead to, and that it leads to by bytes
-- of earlier places, are visited, each by a name that is no greater.
pub record IsWalk {K : Type 0} (next : K → ℕ → K) (start : K) (states : List K) (trails : List Trail) (names : List (List ℕ))
    (i p : ℕ) : Type 0 where
  pub named : AreNames trails names
  pub slash : (t : Trail) → slice_get trails 0 ≡ Some t → t.byte ≡ ascii.slash
  pub each : length states ≡ length trails
  pub leads : (j : ℕ) (s : K) (name : List ℕ) → IsAt states names j s name → IsName name × (led next start name ≡ s)
  pub ascending : (j k : ℕ) (name other : List ℕ) → j < k → slice_get names j ≡ Some name → slice_get names k ≡ Some other →
      IsLess name other
  pub below : (j c : ℕ) (name here : List ℕ) → slice_get names j ≡ Some name → slice_get names i ≡ Some here → p ≤ place_of c →
      IsLess name (here ++ c ∷ [])
  pub closed : (j c : ℕ) (s : K) (name : List ℕ) → IsAt states names j s name → IsNameByte c → (j < i) ⊎ ((j ≡ i) × (place_of c < p)) →
      IsMetBy states names (next s c) (name ++ c ∷ [])

abbrev pub IsWalkAt : {K : Type 0} → (K → ℕ → K) → K → List K → List Trail → ℕ → ℕ → Type 0
IsWalkAt {K} next start states trails i p = (names : List (List ℕ)) × IsWalk next start states trails names i p

-- A state is visited: it was, or it is appended.
abbrev pub IsVisited : {K : Type 0} → List K → List Trail → List K → List Trail → K → Trail → Type 0
IsVisited {K} states trails new more s t =
    (((k : ℕ) × (slice_get states k ≡ Some s)) × (new ≡ states) × (more ≡ trails))
    ⊎ ((new ≡ states ++ s ∷ []) × (more ≡ trails ++ t ∷ []))

-- all are still there
abbrev pub AreKept : {K : Type 0} → List K → List K → Type 0
AreKept {K} old new = (j : ℕ) (s : K) → slice_get old j ≡ Some s → slice_get new j ≡ Some s

abbrev pub states_of : Walk → List States
states_of walk = walk.states.keys

-- why a state isn't visited
abbrev pub IsVisitFault : {K : Type 0} → List K → K → SearchFault → Type 0
IsVisitFault {K} states s TooManyStates =
    (most_visits ≡ length states) × AreDistinct states × ((i : ℕ) → ¬ (slice_get states i ≡ Some s))
IsVisitFault {K} states s NoMemory = Unit {0}
