use Rattle.directory_tree.proofs.Presence.{one_name}
use Rattle.directory_tree.proofs.laws.names_differ.Goals as goal

pub returns : goal.returns
returns c = one_name
