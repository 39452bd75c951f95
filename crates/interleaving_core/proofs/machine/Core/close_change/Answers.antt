use Rattle.std.proofs.Common.{ap, refl}
use Rattle.std.proofs.lemmas.Result.{on_ok_weaker}
use Rattle.event_machine.specs.Machine.Event.{close_change}
use Rattle.interleaving_core.specs.inner.Consistency.{parts_in}
use Rattle.event_machine.specs.declared.event.StepFault.TheVariants.{NotNow}
use Rattle.interleaving_core.proofs.Lawful.{no_close}
use Rattle.interleaving_core.proofs.Steps.{with_row, closes_change}
use Rattle.interleaving_core.proofs.Consistency.{Made, done, refused, keeper_stands}
use Rattle.interleaving_core.proofs.machine.Core.close_change.Goals.{in-Ok, in-Err}
use Rattle.interleaving_core.proofs.machine.Core.close_change.Goals as goal

pub invariant_of-self : goal.invariant_of-self
invariant_of-self c =
    let i = c.self.inside in
    let m = Made i.keeper i.policy i.sessions in
    let new = c.close.new.self in
    keeper_stands c.steps_keep_rule.ensures.step i.keeper new i.policy i.sessions close_change c.close.result c.self.invariant
    c.close.ensures.capacity (on_ok_weaker c.close.result (closes_change m new c.close.ensures.capacity) c.close.ensures.ok)
    c.close.ensures.same

pub returns : goal.returns
returns c =
    let i = c.self.inside in
    let m = Made i.keeper i.policy i.sessions in
    let parts = parts_in i.keeper i.policy i.sessions in
    let new = c.close.new.self in
    elim c.match-close.branch [
      | in-Ok w ↦ rw w.result-is (done c.args.self.now parts close_change (Made new i.policy i.sessions) c.self.view_is
          (closes_change m new c.close.ensures.capacity w.in-Ok.ensures.ok))
      | in-Err w ↦ rw w.result-is
          (refused c.args.self.now parts close_change NotNow (Made new i.policy i.sessions) c.self.view_is
          (ap (with_row m) w.in-Err.ensures.same) (λ _. no_close m w.in-Err.ensures.not_now) (λ _ turn. turn) refl)
    ]
