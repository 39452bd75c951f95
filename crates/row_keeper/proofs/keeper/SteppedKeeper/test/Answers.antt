use Rattle.std.proofs.Common.{◌≡◌, ℕ, Ok, length, sym, ◌∙◌, subst, arith}
use Rattle.row_keeper.specs.KeeperSteps.{IsTested}
use Rattle.row_keeper.proofs.KeeperSteps.{tested}
use Rattle.row_keeper.proofs.keeper.SteppedKeeper.test.Goals as goal

pub returns-in-Ok-clause-ok : goal.returns-in-Ok-clause-ok
returns-in-Ok-clause-ok c =
    let plan = c.in-Ok.plan in
    let may = rw c.in-Ok.is at c.in_ok-plan.ensures.ok in
    let long : length plan.items ≡ plan.len = omega (arith, plan.ok) in
    subst (λ (n : ℕ). IsTested c.args.self.now.0 c.args.self.now.1 c.args.change.now (Ok n)) (long ∙ sym c.len.ensures)
    (tested c.change_has_one_plan.ensures.count c.args.self.now.0 c.args.self.now.1 c.args.change.now plan.items may)
