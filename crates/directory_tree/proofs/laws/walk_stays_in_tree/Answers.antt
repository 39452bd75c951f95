use Rattle.directory_tree.proofs.Presence.{walk_stands}
use Rattle.directory_tree.proofs.laws.walk_stays_in_tree.Goals as goal

pub returns : goal.returns
returns c = walk_stands
