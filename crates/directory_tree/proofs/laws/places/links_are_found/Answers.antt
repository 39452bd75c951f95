use Rattle.directory_tree.proofs.Linked.{links_found}
use Rattle.directory_tree.proofs.laws.places.links_are_found.Goals as goal

pub returns : goal.returns
returns c = links_found
