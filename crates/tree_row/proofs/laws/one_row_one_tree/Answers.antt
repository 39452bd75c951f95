use Rattle.tree_row.specs.laws.OneTree.{same_tree}
use Rattle.tree_row.proofs.laws.one_row_one_tree.Goals as goal

pub returns : goal.returns
returns c = same_tree
