use Rattle.dentry_cache.proofs.RowSteps.{kept_as, learns}
use Rattle.dentry_cache.proofs.steps.learn.Goals as goal

pub load-requires : goal.load-requires
load-requires c = (c.requires.own, c.requires.words, learns _ _ _ _ c.requires.role)

pub returns-clause-role : goal.returns-clause-role
returns-clause-role c = (kept_as _ _ c.load.ensures.2.0).0

pub returns-clause-told : goal.returns-clause-told
returns-clause-told c = (kept_as _ _ c.load.ensures.2.0).1
