use Rattle.directory_tree.proofs.Drops.{unlink_keeps, rmdir_keeps}
use Rattle.directory_tree.proofs.laws.removal_keeps_well_formed.Goals as goal

pub returns-clause-unlink : goal.returns-clause-unlink
returns-clause-unlink c = unlink_keeps

pub returns-clause-rmdir : goal.returns-clause-rmdir
returns-clause-rmdir c = rmdir_keeps
