use Rattle.dentry_cache.proofs.Writers.{walkers_write_nothing}
use Rattle.dentry_cache.proofs.laws.walkers_write_nothing.Goals as goal

pub returns : goal.returns
returns c = walkers_write_nothing
