use Rattle.std.proofs.Common.{refl}
use Rattle.directory_tree.specs.Walk.Spot.{Root}
use Rattle.path_lookup.specs.World.{World}
use Rattle.test_parts.specs.SmallTrees.{small_tree}
use Rattle.test_parts.proofs.SmallTreeLaws.{small_sound}
use Rattle.test_parts.proofs.toy.SmallTree.new.Goals as goal

pub returns : goal.returns
returns c =
    let sound = small_sound c.changes_keep_well_formed.ensures.all in
    let w : World = record { tree = small_tree; named = λ _. Root; sound = sound } in
    (w, refl)
