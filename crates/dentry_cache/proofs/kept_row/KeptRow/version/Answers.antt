use Rattle.dentry_cache.proofs.KeeperParts.{count_of_version}
use Rattle.dentry_cache.proofs.kept_row.KeptRow.version.Goals as goal

pub returns-clause-count : goal.returns-clause-count
returns-clause-count c = count_of_version _ _ _ _ _ _ _ c.self.invariant.0 c.self.view_is
