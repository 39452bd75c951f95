use Rattle.std.proofs.Common.{rules}
use Rattle.dentry_cache.proofs.RowSteps.{kept_as, closes}
use Rattle.dentry_cache.proofs.steps.close.Goals as goal

pub store-requires : goal.store-requires
store-requires c = (
  c.requires.own,
  c.requires.words,
  closes _ _ _ _ _ c.requires.all_set.0 c.requires.role c.requires.all_set.1
      (search rules),
)

pub returns-clause-role : goal.returns-clause-role
returns-clause-role c = (kept_as _ _ c.store.ensures.2).0

pub returns-clause-told : goal.returns-clause-told
returns-clause-told c = (kept_as _ _ c.store.ensures.2).1
