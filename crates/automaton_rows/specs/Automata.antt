-- An automaton as tables: a row of 256 targets and a record for each state.
use Rattle.std.specs.Prelude.{◌≡◌, ◌⊎◌, ℕ, ◌<◌, ◌≤◌, List, [], ◌∷◌, length, slice_index_or}
use Rattle.names.specs.declared.record.Record.{Record}

pub record Automaton : Type 0 where
  pub rows : List (List ℕ)
  pub records : List Record
  pub start : ℕ

abbrev pub target : Automaton → ℕ → ℕ → ℕ
target a state byte = slice_index_or (slice_index_or a.rows state []) byte 0

-- the state after bytes, from a state on and from the start on
abbrev pub goes_to : Automaton → ℕ → List ℕ → ℕ
goes_to a state [] = state
goes_to a state (b ∷ bytes) = goes_to a (target a state b) bytes

abbrev pub state_after : Automaton → List ℕ → ℕ
state_after a bytes = goes_to a a.start bytes

-- the most states, that of the empty set among them
abbrev pub most_sets : ℕ
most_sets = 16384

-- Each state has a row of 256 targets and a record; the start and each target are states; and there are not too many. State 0
-- leads to itself alone. The start is state 1, or state 0 where there is no other.
pub record IsWhole (a : Automaton) : Type 0 where
  pub rows_long : (s : ℕ) → s < length a.rows → length (slice_index_or a.rows s []) ≡ 256
  pub targets : (s b : ℕ) → s < length a.rows → b < 256 → target a s b < length a.rows
  pub each_record : length a.records ≡ length a.rows
  pub start_there : a.start < length a.rows
  pub few : length a.rows ≤ most_sets
  pub stays_dead : (b : ℕ) → b < 256 → target a 0 b ≡ 0
  pub begins : (a.start ≡ 1) ⊎ ((a.start ≡ 0) × (length a.rows ≡ 1))
