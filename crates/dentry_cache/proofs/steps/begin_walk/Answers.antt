use Rattle.dentry_cache.proofs.RowSteps.{begins}
use Rattle.dentry_cache.proofs.steps.begin_walk.Goals as goal

pub load-requires : goal.load-requires
load-requires c = (c.requires.own, c.requires.words, begins _ _ _ _ c.requires.role)
