use Rattle.justification.proofs.Agreement.{one_tree}
use Rattle.justification.proofs.laws.a_version_has_one_tree.Goals as goal

pub returns : goal.returns
returns c = one_tree
