use Rattle.dentry_cache.proofs.RowSteps.{lends}
use Rattle.dentry_cache.proofs.steps.lend.Goals as goal

pub split_seat-requires : goal.split_seat-requires
split_seat-requires c = (c.requires.own, c.requires.words, lends _ _ _ c.requires.role)
