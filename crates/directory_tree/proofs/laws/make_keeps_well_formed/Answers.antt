use Rattle.directory_tree.proofs.Kept.{make_keeps}
use Rattle.directory_tree.proofs.laws.make_keeps_well_formed.Goals as goal

pub returns : goal.returns
returns c = make_keeps
