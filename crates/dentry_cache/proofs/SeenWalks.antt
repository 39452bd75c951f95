-- What a walk that ended well has seen.
use Rattle.std.proofs.Common.{ℕ, List, refl}
use Rattle.directory_tree.specs.declared.change.Change.{Change}
use Rattle.tree_row.specs.laws.WorldsAfter.{world_after}
use Rattle.row_rule.specs.declared.cell.Cell.{Cell}
use Rattle.row_rule.specs.Row.{Agrees}
use Rattle.row_plan.specs.Changes.{EncodesChanges}
use Rattle.dentry_cache.specs.Told.{SeesAfter}

-- a row that encodes the changes gives a world
pub sees_after : (capacity : ℕ) (reads : List Cell) (changes : List Change) (cells : List ℕ) → EncodesChanges capacity cells changes →
    Agrees reads cells → SeesAfter capacity reads changes
sees_after capacity reads changes cells (t, made, encodes) agrees = record {
  world = world_after capacity changes cells t made;
  made = made;
  seen = (cells, agrees, record { tree = encodes; named = λ s. refl });
}
