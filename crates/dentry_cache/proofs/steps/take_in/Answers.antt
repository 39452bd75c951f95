use Rattle.std.proofs.Common.{rules, ap, ◌∙◌}
use Rattle.dentry_cache.specs.Told.{met_view}
use Rattle.dentry_cache.proofs.RowSteps.{kept_as, takes_in}
use Rattle.dentry_cache.proofs.steps.take_in.Goals as goal

pub join_seat-requires : goal.join_seat-requires
join_seat-requires c = (
  c.requires.own,
  c.requires.other.0,
  search rules,
  c.requires.words,
  takes_in _ _ _ _ _ c.requires.role
      c.requires.other.1,
)

pub returns-clause-role : goal.returns-clause-role
returns-clause-role c =
    (kept_as _ _ (c.join_seat.ensures.2 ∙ ap (λ cs. (met_view c.args.seat.now.me.0 c.args.other.me.0, cs))
    (ap (λ m. m.1) c.requires.role))).0

pub returns-clause-told : goal.returns-clause-told
returns-clause-told c =
    (kept_as _ _ (c.join_seat.ensures.2 ∙ ap (λ cs. (met_view c.args.seat.now.me.0 c.args.other.me.0, cs))
    (ap (λ m. m.1) c.requires.role))).1
