use Rattle.dentry_cache.specs.Seats.{keeping}
use Rattle.row_rule.specs.Steps.{at_rest}
use Rattle.std.proofs.Common.{[]}
use Rattle.dentry_cache.proofs.RowSteps.{enters}
use Rattle.dentry_cache.proofs.steps.enter.Goals as goal

pub load_new_seat-requires : goal.load_new_seat-requires
load_new_seat-requires c = (c.requires.words, enters _ _ (keeping (at_rest [] [])))
