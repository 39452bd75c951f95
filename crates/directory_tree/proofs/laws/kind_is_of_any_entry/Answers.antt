use Rattle.directory_tree.proofs.NodeKinds.{kind_by_entry}
use Rattle.directory_tree.proofs.laws.kind_is_of_any_entry.Goals as goal

pub returns : goal.returns
returns c = kind_by_entry
