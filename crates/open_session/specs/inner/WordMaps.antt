-- The map that represents the words that were read.
use Rattle.std.specs.Prelude.{◌≡◌, ℕ, ◌≤◌, List, length}
use Rattle.row_rule.specs.declared.cell.Cell.{Cell}
use Rattle.tree_row.specs.Known.{known_at}
use Rattle.open_session.specs.Words.{word_in}

pub record AreKept (capacity : ℕ) (words : List (ℕ × ℕ)) (reads : List Cell) : Type 0 where
  pub small : capacity ≤ 16384
  pub told : (place : ℕ) → known_at words place ≡ word_in reads place
  pub counted : length words ≡ length reads
