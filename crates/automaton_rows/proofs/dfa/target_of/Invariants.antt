-- The byte is in what is left of the row.
use Rattle.std.proofs.Common.{◌≡◌, ◌≤◌, ℕ, drop}
use Rattle.automaton_rows.specs.Rows.{IsRowFrom, target_in}
use Rattle.automaton_rows.proofs.dfa.target_of.Given as goal

abbrev pub invariant-loop-range : goal.invariant-loop-range
invariant-loop-range l = (from : ℕ) × (from ≤ l.byte) × IsRowFrom from (drop l.range-index l.row)
    × (target_in (drop l.range-index l.row) l.byte ≡ target_in l.row l.byte)
