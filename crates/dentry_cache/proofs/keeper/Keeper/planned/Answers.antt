use Rattle.std.proofs.Common.{subst}
use Rattle.dentry_cache.specs.Models.{Held, Hinders}
use Rattle.dentry_cache.specs.inner.Knowledge.{IsPlanned}
use Rattle.dentry_cache.proofs.KeeperParts.{plannable, planned, hindered}
use Rattle.dentry_cache.proofs.keeper.Keeper.planned.Goals as goal
use Rattle.dentry_cache.proofs.keeper.Keeper.planned.Goals.{in-Ok, in-Err}

pub plan-requires : goal.plan-requires
plan-requires c = plannable _ _ c.in_ok-next.ensures.ok

pub returns-clause-ok : goal.returns-clause-ok
returns-clause-ok c = elim c.match-plan.branch [
  | in-Ok w ↦ rw w.result-is (subst (λ (h : Held). IsPlanned h c.args.change.now w.in-Ok.plan.items) c.self.view_is
      (planned _ _ c.in_ok-next.ensures.ok c.args.change.now _ w.in-Ok.ensures.ok))
  | in-Err w ↦ rw w.result-is tt
]

pub returns-clause-err : goal.returns-clause-err
returns-clause-err c = elim c.match-plan.branch [
  | in-Ok w ↦ rw w.result-is tt
  | in-Err w ↦ rw w.result-is (subst (λ (h : Held). Hinders h c.args.change.now w.in-Err.errno) c.self.view_is
      (hindered _ _ c.in_ok-next.ensures.ok c.args.change.now _ w.in-Err.ensures.err))
]
