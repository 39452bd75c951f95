-- What a walk that ended well saw.
use Rattle.std.proofs.Common.{◌≡◌, ℕ, List, length, take, ap, ◌∙◌, subst, arith}
use Rattle.std.proofs.Math.Seq.{take-length}
use Rattle.std.specs.Prelude.{Ok}
use Rattle.directory_tree.specs.declared.change.Change.{Change}
use Rattle.directory_tree.specs.Tree.{Tree}
use Rattle.directory_tree.specs.Apply.{tree_after}
use Rattle.tree_row.specs.Worlds.{SeesBy}
use Rattle.row_rule.specs.Row.{Agrees}
use Rattle.dentry_cache.specs.Walks.{Walk}
use Rattle.dentry_cache.specs.Told.{SeesAfter}
use Rattle.justification.specs.Versions.{IsTreeAt}
use Rattle.directory_tree.specs.laws.Rooms.{roomy_after}

-- the tree of all changes is that of their number
pub tree_at : (capacity : ℕ) (changes : List Change) (version : ℕ) (t : Tree) → version ≡ length changes → tree_after capacity changes
    ≡ Ok t → IsTreeAt changes version t
tree_at capacity changes version t is made =
    let all : take version changes ≡ changes = ap (λ (n : ℕ). take n changes) is ∙ take-length changes in (
      omega arith,
      ap (λ (h : List Change). tree_after (length changes) h) all ∙ roomy_after (length changes) capacity changes t
          (omega arith) made,
    )

-- the look that the walk read through sees what the walk saw
pub look_sees : (ended left : Walk) (changes : List Change) → ended ≡ left → (saw : SeesAfter ended.capacity ended.view.reads changes) →
    SeesBy left.capacity (Agrees left.view.reads) saw.world
look_sees ended left changes same saw = subst (λ (x : Walk). SeesBy x.capacity (Agrees x.view.reads) saw.world) same saw.seen
