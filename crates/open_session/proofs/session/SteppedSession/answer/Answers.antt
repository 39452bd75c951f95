use Rattle.std.proofs.Common.{ℕ, List, take, subst}
use Rattle.event_machine.specs.Machine.{Session}
use Rattle.event_machine.specs.WalkSteps.{MayAnswer}
use Rattle.open_session.specs.inner.StageData.{stage_of, IsTold}
use Rattle.open_session.proofs.Tellings.{told_answers}
use Rattle.open_session.proofs.session.SteppedSession.answer.Goals as goal

pub returns-in-Checked-clause-ok : goal.returns-in-Checked-clause-ok
returns-in-Checked-clause-ok c =
    let own = c.self.inside in
    let told = c.told-told.result in
    let checked = c.in-Checked.checked in (
      take told.name_length own.room.value,
      subst (λ (v : ℕ × Session). MayAnswer v.0 v.1.stage told.answer (take told.name_length own.room.value)) c.self.view_is
          (told_answers own.capacity own.room.value checked own.stage told c.in-Checked.ensures.value c.self.invariant.2
          (subst (λ (room : List ℕ). IsTold checked.walk.words.0 room checked told) c.deref.ensures c.told-told.ensures)),
      λ i. record { name = take told.name_length (c.swap.ensures.x_after i).value; stage = stage_of (c.replace.ensures.after i) },
    )
