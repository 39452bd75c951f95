use Rattle.directory_tree.proofs.Kept.{link_keeps}
use Rattle.directory_tree.proofs.laws.link_keeps_well_formed.Goals as goal

pub returns : goal.returns
returns c = link_keeps
