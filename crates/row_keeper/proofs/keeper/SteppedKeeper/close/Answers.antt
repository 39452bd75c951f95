use Rattle.std.proofs.Common.{ℕ, ap, arith}
use Rattle.row_rule.specs.declared.view.KeeperView.{KeeperView}
use Rattle.row_keeper.proofs.KeeperSteps.{view_closed, not_closed}
use Rattle.row_keeper.proofs.keeper.SteppedKeeper.close.Goals as goal

pub returns-then-self-len-clause-not_now : goal.returns-then-self-len-clause-not_now
returns-then-self-len-clause-not_now c =
    let i = c.self.inside in
    not_closed i.look.cells.1 i.history.events i.opened c.in-Some.opened i.set c.args.self.now.1 c.in-Some.is
    (omega (arith, c.len.ensures, c.if-self-len.true)) (ap (λ (v : ℕ × KeeperView). v.1) c.self.view_is)

pub returns-clause-ok : goal.returns-clause-ok
returns-clause-ok c =
    let i = c.self.inside in
    view_closed i.look.cells.0 i.look.cells.1 i.next i.version i.history.events i.opened c.in-Some.opened i.set i.set c.args.self.now.1
    c.again-self-inside.result.events c.in-Some.is (omega (arith, c.len.ensures, c.if-self-len.false)) c.again-self-inside.ensures
    c.self.invariant (ap (λ (v : ℕ × KeeperView). v.1) c.self.view_is)
