use Rattle.std.proofs.Common.{subst, sym, ◌∙◌, inl, inr}
use Rattle.dentry_cache.specs.Models.{Held, Accepts, Refuses}
use Rattle.dentry_cache.specs.inner.Knowledge.{Countable}
use Rattle.dentry_cache.proofs.KeeperParts.{sees_world, accepted_by, refused}
use Rattle.dentry_cache.proofs.keeper.Keeper.test.Goals as goal
use Rattle.dentry_cache.proofs.keeper.Keeper.test.Goals.{in-Ok, in-Err+in-Refused}

pub unreachable-requires : goal.unreachable-requires
unreachable-requires c =
    let n = subst (λ (h : Held). Countable h c.in_ok-next.field-0) (sym c.check_change.ensures.kept) c.in_ok-next.ensures.ok in
    elim (rw c.in-Torn.is at c.in-Err.ensures.fault) [
      | inl none ↦ none
      | inr none ↦ none _ (sees_world _ _ n)
    ]

pub returns-clause-ok : goal.returns-clause-ok
returns-clause-ok c =
    let n = subst (λ (h : Held). Countable h c.in_ok-next.field-0) (sym c.check_change.ensures.kept) c.in_ok-next.ensures.ok in
    elim c.match-check_change.branch [
      | in-Ok w ↦ rw w.result-is (subst (λ (h : Held). Accepts h c.args.change.now) (c.check_change.ensures.kept ∙ c.self.view_is)
          (accepted_by _ _ n c.args.change.now _ (w.in-Ok.ensures.acts _ (sees_world _ _ n))))
      | in-Err+in-Refused w ↦ rw w.result-is tt
    ]

pub returns-clause-err : goal.returns-clause-err
returns-clause-err c =
    let n = subst (λ (h : Held). Countable h c.in_ok-next.field-0) (sym c.check_change.ensures.kept) c.in_ok-next.ensures.ok in
    elim c.match-check_change.branch [
      | in-Ok w ↦ rw w.result-is tt
      | in-Err+in-Refused w ↦ rw w.result-is (subst (λ (h : Held). Refuses h c.args.change.now w.in-Refused.errno)
          (c.check_change.ensures.kept ∙ c.self.view_is)
          (refused _ _ n c.args.change.now _ ((rw w.in-Refused.is at w.in-Err.ensures.fault) _ (sees_world _ _ n))))
    ]
