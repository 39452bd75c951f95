use Rattle.std.proofs.Common.{◌≡◌, IfOk, IfErr, subst}
use Rattle.std.proofs.lemmas.Result.{IfOk-weaker}
use Rattle.row_keeper.specs.KeeperSteps as keeper
use Rattle.event_machine.specs.Lawful.{IsTested, TakesMemory}
use Rattle.event_machine.specs.Machine.Event.{open_change}
use Rattle.event_machine.specs.declared.event.StepFault.TheVariants.{NoMemory}
use Rattle.interleaving_core.specs.Parts.{Parts, machine_of}
use Rattle.interleaving_core.proofs.Consistency.{Made}
use Rattle.interleaving_core.proofs.TestedChanges.{tests}
use Rattle.interleaving_core.proofs.event_steps.CoreEventMachine.test.Goals as goal

pub returns-clause-ok : goal.returns-clause-ok
returns-clause-ok c =
    let i = c.self.inside in
    let m = Made i.keeper i.policy i.sessions in
    subst (λ (p : Parts). IfOk c.test.result (IsTested (machine_of p) c.args.change.now)) c.self.view_is
    (IfOk-weaker c.test.result (keeper.IsTested m.capacity m.keeper c.args.change.now) (IsTested m c.args.change.now)
    (tests m c.args.change.now) c.test.ensures.ok)

pub returns-clause-memory : goal.returns-clause-memory
returns-clause-memory c =
    subst (λ (p : Parts). IfErr c.test.result (λ fault. fault ≡ NoMemory → TakesMemory (machine_of p) (open_change c.args.change.now)))
    c.self.view_is c.test.ensures.memory
