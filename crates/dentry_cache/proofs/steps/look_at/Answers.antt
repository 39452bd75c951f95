use Rattle.dentry_cache.proofs.RowSteps.{looks}
use Rattle.dentry_cache.proofs.steps.look_at.Goals as goal

pub load-requires : goal.load-requires
load-requires c = (c.requires.own, c.requires.words, looks _ _ _ _ _ c.requires.role)
