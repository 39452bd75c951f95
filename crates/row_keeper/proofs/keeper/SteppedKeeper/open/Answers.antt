use Rattle.std.proofs.Common.{◌∙◌}
use Rattle.row_keeper.proofs.KeeperSteps.{kept_opened, view_opened}
use Rattle.row_keeper.proofs.keeper.SteppedKeeper.open.Goals as goal

pub invariant_of-self : goal.invariant_of-self
invariant_of-self c =
    let i = c.self.inside in
    let may = rw c.in-Ok.is at c.in_ok-plan.ensures.ok in
    rw c.next_after-self-inside.ensures (kept_opened i.look.cells.0 i.look.cells.1 i.next i.version i.history.events i.opened i.set
    c.args.self.now c.self.invariant (c.self.view_is ∙ c.planned.ensures.same)
    c.args.change.now c.in-Ok.plan may c.and.result c.and.ensures)

pub returns-clause-ok : goal.returns-clause-ok
returns-clause-ok c =
    let i = c.self.inside in
    let may = rw c.in-Ok.is at c.in_ok-plan.ensures.ok in
    view_opened i.look.cells.0 i.look.cells.1 i.next i.version i.history.events i.opened i.set c.args.self.now c.self.invariant
    (c.self.view_is ∙ c.planned.ensures.same) c.args.change.now c.in-Ok.plan may c.and.result c.and.ensures
