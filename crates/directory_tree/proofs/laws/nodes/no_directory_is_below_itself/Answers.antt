use Rattle.directory_tree.proofs.Descent.{never_below_itself}
use Rattle.directory_tree.proofs.laws.nodes.no_directory_is_below_itself.Goals as goal

pub returns : goal.returns
returns c = never_below_itself
