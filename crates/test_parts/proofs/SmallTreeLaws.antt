-- The small tree is a sound one.
use Rattle.std.proofs.Common.{◌≡◌, ℕ, List, [], ◌∷◌, refl}
use Rattle.std.specs.Prelude.{codes, Ok}
use Rattle.directory_tree.specs.declared.change.Change.{Change}
use Rattle.directory_tree.specs.declared.change.Change.TheVariants as change
use Rattle.directory_tree.specs.Tree.{Tree, WellFormed}
use Rattle.directory_tree.specs.Apply.{tree_after}
use Rattle.test_parts.specs.SmallTrees.{small_tree}

abbrev changes : List Change
changes =
    change.Mkdir (codes "/a") ∷ change.Create (codes "/a/f") ∷ change.Symlink (codes "/a/f") (codes "/a/l")
    ∷ change.Symlink (codes "r") (codes "/a/r") ∷ change.Symlink (codes "a/") (codes "/d") ∷ []

made : tree_after 5 changes ≡ Ok small_tree
made = refl

-- by the law that changes keep a tree sound
pub small_sound : ((capacity : ℕ) (cs : List Change) (t : Tree) → tree_after capacity cs ≡ Ok t → WellFormed t) → WellFormed small_tree
small_sound sound = sound 5 changes small_tree made
