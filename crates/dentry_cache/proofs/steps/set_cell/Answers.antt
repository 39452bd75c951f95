use Rattle.std.proofs.Common.{refl}
use Rattle.dentry_cache.proofs.RowSteps.{kept_as, sets}
use Rattle.dentry_cache.proofs.steps.set_cell.Goals as goal

pub store-requires : goal.store-requires
store-requires c = (
  c.requires.own,
  c.requires.words.0,
  sets _ _ _ c.args.cell _ c.requires.next.0 c.requires.next.1 c.requires.role
      c.requires.next.2,
)

pub returns-clause-role : goal.returns-clause-role
returns-clause-role c = (kept_as _ _ (c.store.ensures.2 c.args.cell.place refl)).0

pub returns-clause-told : goal.returns-clause-told
returns-clause-told c = (kept_as _ _ (c.store.ensures.2 c.args.cell.place refl)).1
