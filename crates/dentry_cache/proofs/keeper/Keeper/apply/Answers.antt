use Rattle.std.proofs.Common.{subst, sym, ◌∙◌}
use Rattle.dentry_cache.specs.Models.{Held}
use Rattle.dentry_cache.specs.inner.Knowledge.{IsPlanned}
use Rattle.dentry_cache.proofs.keeper.Keeper.apply.Goals as goal

pub make-requires : goal.make-requires
make-requires c =
    rw c.deref.ensures.value
    (subst (λ (h : Held). IsPlanned h c.args.change.now c.in_ok-plan.plan.items) (sym (c.self.view_is ∙ c.planned.ensures.same))
    c.in_ok-plan.ensures.ok)
