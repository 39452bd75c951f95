use Rattle.directory_tree.proofs.Histories.{plain_well}
use Rattle.directory_tree.proofs.laws.plain_trees_are_well_formed.Goals as goal

pub returns : goal.returns
returns c = plain_well
