use Rattle.directory_tree.proofs.Renames.{rename_keeps}
use Rattle.directory_tree.proofs.laws.rename_keeps_well_formed.Goals as goal

pub returns : goal.returns
returns c = rename_keeps
