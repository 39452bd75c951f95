-- The tree that a history of changes makes.
use Rattle.std.proofs.Common.{◌≡◌, refl}
use Rattle.std.specs.Prelude.{Ok, Err}
use Rattle.directory_tree.specs.Tree.{Tree, WellFormed, root_alone}
use Rattle.directory_tree.specs.Apply.{Changed, tree_after}
use Rattle.directory_tree.specs.Plain.{Plain, tree_of}
use Rattle.directory_tree.proofs.Changes.{tree_after_well, root_well}

-- every plain value has a sound tree
pub plain_well : (p : Plain) → WellFormed (tree_of p)
plain_well p = elim (tree_after p.capacity p.history) as (λ (r : Changed). tree_after p.capacity p.history ≡ r →
    WellFormed (elim r as (λ _. Tree) [ Ok t ↦ t | Err e ↦ root_alone ])) [
      | Ok t ↦ λ is. tree_after_well p.capacity p.history t is
      | Err e ↦ λ is. root_well
    ] refl
