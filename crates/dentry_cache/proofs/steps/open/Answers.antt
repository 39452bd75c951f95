use Rattle.std.proofs.Common.{rules, ◌∙◌}
use Rattle.row_rule.specs.Steps.{opening}
use Rattle.dentry_cache.specs.Seats.{keeper_of}
use Rattle.dentry_cache.proofs.RowSteps.{kept_as, opens}
use Rattle.dentry_cache.proofs.steps.open.Goals as goal

pub store-requires : goal.store-requires
store-requires g c = (
  c.requires.own,
  c.requires.words,
  rw (c.requires.picked.0, c.requires.picked.1)
      (opens _ _ _ _ _ c.args.change.now c.args.plan.now c.requires.role c.requires.shut (search rules) c.requires.planned),
)

pub returns-clause-role : goal.returns-clause-role
returns-clause-role g c = (kept_as _ _ c.store.ensures.2).0

pub returns-clause-told : goal.returns-clause-told
returns-clause-told g c = (kept_as _ _ c.store.ensures.2).1 ∙ (λ i. opening (keeper_of c.args.seat.now.me.0) (c.requires.picked.0 i)
    (c.requires.picked.1 i))
