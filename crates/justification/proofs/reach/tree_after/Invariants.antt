use Rattle.std.proofs.Common.{◌≡◌, take}
use Rattle.std.specs.Prelude.{Ok}
use Rattle.directory_tree.specs.Apply.{tree_after}
use Rattle.directory_tree.specs.Plain.{tree_of}
use Rattle.justification.proofs.reach.tree_after.Given as goal

-- the tree after the changes so far
abbrev pub invariant-loop-change : goal.invariant-loop-change
invariant-loop-change l = record {
  capacity : l.tree.capacity ≡ l.capacity;
  history : l.tree.history ≡ take l.change-index l.changes;
  made : tree_after l.tree.capacity l.tree.history ≡ Ok (tree_of l.tree);
}
