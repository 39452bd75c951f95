use Rattle.dentry_cache.proofs.KeeperParts.{kept_of, sees_history}
use Rattle.dentry_cache.proofs.kept_row.KeptRow.encodes_history.Goals as goal

pub returns : goal.returns
returns c = sees_history _ _ _ (kept_of _ _ _ _ _ _ _ c.self.invariant.0 c.self.view_is)
