-- What is left of the row from this byte on.
use Rattle.std.proofs.Common.{◌≡◌, ◌-◌, ◌≤◌, ℕ}
use Rattle.automaton_rows.specs.Rows.{target_in, IsRowFrom}
use Rattle.automaton_search.proofs.steps.row_from.Given as goal

abbrev pub invariant-loop-rest : goal.invariant-loop-rest
invariant-loop-rest l = record {
  before : l.from ≤ l.first;
  row : IsRowFrom l.from l.rest;
  targets : (b : ℕ) → l.from ≤ b → target_in l.rest b ≡ target_in l.row b;
}

abbrev pub decreases-loop-rest : goal.decreases-loop-rest
decreases-loop-rest l = 256 - l.from
