use Rattle.std.proofs.Common.{◌∙◌, sym}
use Rattle.row_keeper.proofs.KeeperSteps.{is_none, plannable, full, planned, refused, accepts}
use Rattle.row_keeper.proofs.keeper.SteppedKeeper.planned.Goals as goal
use Rattle.row_keeper.proofs.keeper.SteppedKeeper.planned.Goals.{in-Ok, in-Err+in-ENOMEM, in-Err+in_default}

pub returns-then-self-eq-MOST_CHANGES-clause-ok : goal.returns-then-self-eq-MOST_CHANGES-clause-ok
returns-then-self-eq-MOST_CHANGES-clause-ok c =
    let i = c.self.inside in
    full i.look.cells.0 i.look.cells.1 i.next i.version i.history.events i.opened i.set c.args.self.now c.self.invariant c.self.view_is
    (is_none i.opened (sym c.is_some.ensures ∙ c.if-is_some.false)) c.args.change.now c.if-self-eq-MOST_CHANGES.true

pub plan-requires : goal.plan-requires
plan-requires c =
    let i = c.self.inside in
    plannable i.look.cells.0 i.look.cells.1 i.next i.version i.history.events i.opened i.set c.args.self.now
    c.self.invariant c.self.view_is (is_none i.opened (sym c.is_some.ensures ∙ c.if-is_some.false)) c.args.change.now

pub returns-clause-ok : goal.returns-clause-ok
returns-clause-ok c =
    let i = c.self.inside in
    let none = is_none i.opened (sym c.is_some.ensures ∙ c.if-is_some.false) in
    elim c.match-plan.branch [
      | in-Ok w ↦ rw w.result-is
          (planned i.look.cells.0 i.look.cells.1 i.next i.version i.history.events i.opened i.set c.args.self.now c.self.invariant
          c.self.view_is none c.args.change.now w.in-Ok.plan c.if-self-eq-MOST_CHANGES.false
          w.in-Ok.ensures.ok)
      | in-Err+in-ENOMEM w ↦ rw w.result-is tt
      | in-Err+in_default w ↦ rw w.result-is
          (refused i.look.cells.0 i.look.cells.1 i.next i.version i.history.events i.opened i.set c.args.self.now c.self.invariant
          c.self.view_is none c.args.change.now w.in-Err.errno c.if-self-eq-MOST_CHANGES.false
          w.in_default.not-ENOMEM w.in-Err.ensures.err)
    ]

pub returns-clause-memory : goal.returns-clause-memory
returns-clause-memory c =
    let i = c.self.inside in
    let none = is_none i.opened (sym c.is_some.ensures ∙ c.if-is_some.false) in
    elim c.match-plan.branch [
      | in-Ok w ↦ rw w.result-is tt
      | in-Err+in-ENOMEM w ↦ rw w.result-is
          (λ _. accepts i.look.cells.0 i.look.cells.1 i.next i.version i.history.events i.opened i.set c.args.self.now c.self.invariant
          c.self.view_is none c.args.change.now c.if-self-eq-MOST_CHANGES.false (rw w.in-ENOMEM.is at w.in-Err.ensures.err))
      | in-Err+in_default w ↦ rw w.result-is tt
    ]
