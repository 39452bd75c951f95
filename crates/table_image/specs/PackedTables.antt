-- The table of an automaton: it says what the automaton says.
use Rattle.std.specs.Prelude.{◌≡◌, List, ℕ, slice_get}
use Rattle.automaton_rows.specs.Automata.{Automaton, state_after}
use Rattle.names.specs.Bytes.{are_bytes}
use Rattle.tables.specs.Bounds.{InBounds}
use Rattle.tables.specs.Tables.{Table, StaysDead, record_after, record_of}

-- A table in bounds whose state 0 is dead, with the record of the automaton's own state 0, and which leads every list of bytes to
-- the automaton's record. How states are numbered and where their cells are is left open.
pub record IsTableOf (a : Automaton) (t : Table) : Type 0 where
  pub bounds : InBounds t
  pub dead : StaysDead t
  pub dead_record : record_of t 0 ≡ slice_get a.records 0
  pub same : (bytes : List ℕ) → are_bytes bytes → record_after t bytes ≡ slice_get a.records (state_after a bytes)
