use Rattle.std.proofs.Common.{subst, sym, ◌∙◌}
use Rattle.dentry_cache.specs.Models.{Held}
use Rattle.dentry_cache.specs.inner.Knowledge.{IsPlanned}
use Rattle.dentry_cache.proofs.keeper.Keeper.stop_amid.Goals as goal

pub stop_amid-requires : goal.stop_amid-requires
stop_amid-requires c =
    rw c.deref.ensures.value
    (subst (λ (h : Held). IsPlanned h c.args.change.now c.in-Ok.plan.items)
    (sym (c.into_cells.ensures ∙ (c.self.view_is ∙ c.planned.ensures.same))) c.in-Ok.ensures.ok)
