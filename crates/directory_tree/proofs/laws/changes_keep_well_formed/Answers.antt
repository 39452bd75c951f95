use Rattle.directory_tree.proofs.Changes.{apply_keeps, tree_after_well}
use Rattle.directory_tree.proofs.laws.changes_keep_well_formed.Goals as goal

pub returns-clause-one : goal.returns-clause-one
returns-clause-one c = apply_keeps

pub returns-clause-all : goal.returns-clause-all
returns-clause-all c = tree_after_well
