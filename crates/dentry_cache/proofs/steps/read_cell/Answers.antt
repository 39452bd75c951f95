use Rattle.std.proofs.Common.{rules, refl}
use Rattle.dentry_cache.proofs.RowSteps.{reads}
use Rattle.dentry_cache.proofs.steps.read_cell.Goals as goal

pub load-requires : goal.load-requires
load-requires c = (c.requires.own, search rules, reads _ _ _ _ _ c.requires.role c.requires.place.0)

pub returns-clause-told : goal.returns-clause-told
returns-clause-told c = c.load.ensures.2 c.args.place refl
