-- The bytes before this one that need a cell are kept, and what follows is left of both rows.
use Rattle.std.proofs.Common.{◌≡◌, ◌-◌, ◌≤◌, ℕ}
use Rattle.automaton_rows.specs.Rows.{IsRowFrom, target_in}
use Rattle.table_image.proofs.OtherBytes.{OthersBefore}
use Rattle.table_image.proofs.cells.others.Given as goal

abbrev pub invariant-loop-own : goal.invariant-loop-own
invariant-loop-own l = record {
  own_row : IsRowFrom l.from l.own;
  own_targets : (b : ℕ) → l.from ≤ b → target_in l.own b ≡ target_in l.row b;
  other_row : IsRowFrom l.from l.other;
  other_targets : (b : ℕ) → l.from ≤ b → target_in l.other b ≡ target_in l.without b;
  before : OthersBefore (target_in l.row) (target_in l.without) l.from l.bytes.items l.targets;
}

abbrev pub decreases-loop-own : goal.decreases-loop-own
decreases-loop-own l = 256 - l.from
