use Rattle.std.proofs.Common.{ℕ, subst}
use Rattle.dentry_cache.specs.Told.{HasEnded}
use Rattle.dentry_cache.proofs.RowSteps.{ends}
use Rattle.dentry_cache.proofs.steps.end_walk.Goals as goal

pub load-requires : goal.load-requires
load-requires g c = (c.requires.own, c.requires.words, rw c.requires.picked (ends _ _ _ _ c.requires.role))

pub returns-clause-told : goal.returns-clause-told
returns-clause-told g c = subst (λ (n : ℕ). HasEnded n c.args.seat.now.me c.load.result c.load.new.seat.me) c.requires.picked
    c.load.ensures.2
