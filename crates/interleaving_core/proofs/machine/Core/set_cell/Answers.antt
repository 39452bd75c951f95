use Rattle.std.proofs.Common.{ap, refl}
use Rattle.std.proofs.lemmas.Result.{on_ok_weaker}
use Rattle.event_machine.specs.Machine.Event.{set_cell}
use Rattle.interleaving_core.specs.inner.Consistency.{parts_in}
use Rattle.event_machine.specs.declared.event.StepFault.TheVariants.{NotNow}
use Rattle.interleaving_core.proofs.Lawful.{no_set}
use Rattle.interleaving_core.proofs.Steps.{with_row, sets_cell}
use Rattle.interleaving_core.proofs.Consistency.{Made, done, refused, keeper_stands}
use Rattle.interleaving_core.proofs.machine.Core.set_cell.Goals.{in-Ok, in-Err}
use Rattle.interleaving_core.proofs.machine.Core.set_cell.Goals as goal

pub invariant_of-self : goal.invariant_of-self
invariant_of-self c =
    let i = c.self.inside in
    let m = Made i.keeper i.policy i.sessions in
    let new = c.set.new.self in
    keeper_stands c.steps_keep_rule.ensures.step i.keeper new i.policy i.sessions set_cell c.set.result c.self.invariant
    c.set.ensures.capacity (on_ok_weaker c.set.result (sets_cell m new c.set.ensures.capacity) c.set.ensures.ok) c.set.ensures.same

pub returns : goal.returns
returns c =
    let i = c.self.inside in
    let m = Made i.keeper i.policy i.sessions in
    let parts = parts_in i.keeper i.policy i.sessions in
    let new = c.set.new.self in
    elim c.match-set.branch [
      | in-Ok w ↦ rw w.result-is (done c.args.self.now parts set_cell (Made new i.policy i.sessions) c.self.view_is
          (sets_cell m new c.set.ensures.capacity w.in-Ok.ensures.ok))
      | in-Err w ↦ rw w.result-is
          (refused c.args.self.now parts set_cell NotNow (Made new i.policy i.sessions) c.self.view_is
          (ap (with_row m) w.in-Err.ensures.same) (λ _. no_set m w.in-Err.ensures.not_now) (λ _ turn. turn) refl)
    ]
