-- Tables whose states lead on over chains of defaults. Where their cells are is left open.
use Rattle.std.specs.Prelude.{◌≡◌, ◌⊎◌, ℕ, ◌-◌, ◌<◌, ◌≤◌, true, false, length, min, slice_get, Some}
use Rattle.automaton_rows.specs.Automata.{Automaton, target}
use Rattle.tables.specs.Bounds.{InBounds}
use Rattle.tables.specs.Tables.{Table, cell_of, default_of, depth_of, owns, record_of, state_count}

-- the state of the automaton that a state of the table stands for
abbrev pub source : Automaton → ℕ → ℕ
source a s = min s (length a.rows - 1)

-- What a state does with a byte for which it owns no cell: at depth 0 it goes to its default, and else the byte is looked up again
-- at the default, which has the same target.
abbrev pub IsOnward : Automaton → Table → ℕ → ℕ → Type 0
IsOnward a t s b =
    ((depth_of t s ≡ 0) × (default_of t s ≡ target a (source a s) b))
    ⊎ ((0 < depth_of t s) × (target a (source a (default_of t s)) b ≡ target a (source a s) b))

-- Each state of the table stands for one of the automaton, and has its targets and its record.
pub record IsChained (a : Automaton) (t : Table) : Type 0 where
  pub bounds : InBounds t
  pub all : length a.rows ≤ state_count t
  pub owned : (s b : ℕ) → s < state_count t → b < 256 → owns t s b ≡ true →
      slice_get t.next (cell_of t s b) ≡ Some (target a (source a s) b)
  pub onward : (s b : ℕ) → s < state_count t → b < 256 → owns t s b ≡ false → IsOnward a t s b
  pub recorded : (s : ℕ) → s < state_count t → record_of t s ≡ slice_get a.records (source a s)
