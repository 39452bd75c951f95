-- Eight seats, each with a name that is on its way.
use Rattle.std.specs.Prelude.{◌≡◌, ℕ, zero, suc, ◌+◌, ◌-◌, ◌<◌, ◌≤◌, List, [], ◌∷◌, Some, drop, get_or, length, slice_get, take}
use Rattle.tables.specs.Tables.{Table, state_after, state_count, state_from}
use Rattle.table_batches.specs.Batches.{name_at, IsAfter}
use Rattle.table_batches.specs.declared.seats.Seats.{Seats}

-- the first states are those of their names
abbrev pub AreAfterTo : Table → List ℕ → List ℕ → ℕ → List ℕ → Type 0
AreAfterTo t text offsets place states =
    (i s : ℕ) → i < place → slice_get states i ≡ Some s → IsAfter t (name_at text offsets i) s

-- after each of eight places the text has this number of bytes
abbrev pub AreWithin : List ℕ → List ℕ → ℕ → Type 0
AreWithin text begins count = (k : ℕ) → k < 8 → get_or begins k 0 + count ≤ length text

-- each of eight states leads to another by this number of bytes
abbrev pub AreLed : Table → List ℕ → List ℕ → ℕ → List ℕ → List ℕ → Type 0
AreLed t text begins count states reached =
    (k : ℕ) → k < 8 → state_from t (get_or states k 0) (take count (drop (get_or begins k 0) text)) ≡ Some (get_or reached k 0)

abbrev pub AreNamed : List ℕ → ℕ → Type 0
AreNamed names count = (k : ℕ) → k < 8 → get_or names k 0 < count

-- each of the eight names has this number of bytes left
abbrev pub AreLeft : List ℕ → List ℕ → List ℕ → ℕ → Type 0
AreLeft offsets names begins shared = (k : ℕ) → k < 8 → get_or begins k 0 + shared ≤ get_or offsets (get_or names k 0 + 1) 0

-- a name, the place that it has reached, and the state there
pub record IsSeat (t : Table) (text offsets : List ℕ) (count name begin state : ℕ) : Type 0 where
  pub there : state < state_count t
  pub named : name < count
  pub behind : get_or offsets name 0 ≤ begin
  pub ahead : begin ≤ get_or offsets (name + 1) 0
  pub led : state_after t (take (begin - get_or offsets name 0) (drop (get_or offsets name 0) text)) ≡ Some state

abbrev pub AreEach : Table → List ℕ → List ℕ → ℕ → List ℕ → List ℕ → List ℕ → Type 0
AreEach t text offsets count names begins reached =
    (k : ℕ) → k < 8 → IsSeat t text offsets count (get_or names k 0) (get_or begins k 0) (get_or reached k 0)

-- eight of them
pub record AreSeats (t : Table) (text offsets : List ℕ) (count : ℕ) (seats : Seats) : Type 0 where
  pub names_long : length seats.names ≡ 8
  pub places_long : length seats.places ≡ 8
  pub states_long : length seats.states ≡ 8
  pub each : AreEach t text offsets count seats.names seats.places seats.states

-- no seat from one on has the name
abbrev pub IsUnseated : List ℕ → ℕ → ℕ → Type 0
IsUnseated names from i = (k : ℕ) → from ≤ k → k < 8 → get_or names k 0 ≡ i → ⊥

-- the names before one have their states, but for those that have a seat from one on
abbrev pub AreDone : Table → List ℕ → List ℕ → ℕ → List ℕ → ℕ → List ℕ → Type 0
AreDone t text offsets next names from states =
    (i s : ℕ) → i < next → IsUnseated names from i → slice_get states i ≡ Some s → IsAfter t (name_at text offsets i) s

-- the names before the next one have a seat, or their states
pub record AreUnderWay (t : Table) (text offsets : List ℕ) (seats : Seats) (next : ℕ) (states : List ℕ) : Type 0 where
  pub each : AreSeats t text offsets (length states) seats
  pub eight : 8 ≤ next
  pub there : next ≤ length states
  pub done : AreDone t text offsets next seats.names 0 states

-- how many bytes the names of the first seats have left
unfoldable pub left_of : List ℕ → List ℕ → List ℕ → ℕ → ℕ
left_of offsets names begins zero = 0
left_of offsets names begins (suc k) = left_of offsets names begins k + (get_or offsets (get_or names k 0 + 1) 0 - get_or begins k 0)

abbrev pub first_names : List ℕ
first_names = 0 ∷ 1 ∷ 2 ∷ 3 ∷ 4 ∷ 5 ∷ 6 ∷ 7 ∷ []

abbrev pub first_begins : List ℕ → List ℕ
first_begins offsets =
    get_or offsets 0 0 ∷ get_or offsets 1 0 ∷ get_or offsets 2 0 ∷ get_or offsets 3 0
    ∷ get_or offsets 4 0 ∷ get_or offsets 5 0 ∷ get_or offsets 6 0 ∷ get_or offsets 7 0 ∷ []

abbrev pub eight_starts : List ℕ
eight_starts = 1 ∷ 1 ∷ 1 ∷ 1 ∷ 1 ∷ 1 ∷ 1 ∷ 1 ∷ []

-- the first eight names, before their first bytes
abbrev pub first_seats : List ℕ → Seats
first_seats offsets = record { names = first_names; places = first_begins offsets; states = eight_starts }
