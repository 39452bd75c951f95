use Rattle.std.proofs.Common.{ap, Some}
use Rattle.std.proofs.lemmas.Result.{IfOk-weaker}
use Rattle.justification.specs.declared.answer.Answer.{Answer}
use Rattle.event_machine.specs.Machine.Event.{answer}
use Rattle.event_machine.specs.Takes.{Takes}
use Rattle.open_session.specs.Steps.{Answers}
use Rattle.interleaving_core.specs.Table.{session_in, StepsIn}
use Rattle.interleaving_core.specs.inner.Consistency.{parts_in}
use Rattle.interleaving_core.proofs.Lawful.{no_answer}
use Rattle.interleaving_core.proofs.Steps.{with_all, answers}
use Rattle.interleaving_core.proofs.Consistency.{Made, told, refused, sessions_answer}
use Rattle.interleaving_core.proofs.machine.Core.answer.Goals.{in-Ok, in-Err}
use Rattle.interleaving_core.proofs.machine.Core.answer.Goals as goal

pub invariant_of-self : goal.invariant_of-self
invariant_of-self c =
    let i = c.self.inside in
    let m = Made i.keeper i.policy i.sessions in
    let new = c.answer.new.self in
    sessions_answer c.steps_keep_rule.ensures.step i.keeper i.policy i.sessions new (answer c.args.session) c.answer.result
    c.self.invariant c.answer.ensures.capacity
    (IfOk-weaker c.answer.result (λ (told : Answer). StepsIn (Answers i.sessions.0 told) c.args.session (session_in i.sessions)
    (session_in new))
    (λ (told : Answer). Takes m (answer c.args.session) (Some told) (Made i.keeper i.policy new))
    (λ told. answers m c.args.session i.sessions.0 (session_in new) told c.self.invariant.one_capacity) c.answer.ensures.ok)
    c.answer.ensures.err

pub returns : goal.returns
returns c =
    let i = c.self.inside in
    let m = Made i.keeper i.policy i.sessions in
    let parts = parts_in i.keeper i.policy i.sessions in
    let new = c.answer.new.self in
    elim c.match-answer.branch [
      | in-Ok w ↦ rw w.result-is
          (told c.args.self.now parts (answer c.args.session) w.in-Ok.told (Made i.keeper i.policy new) c.self.view_is
          (answers m c.args.session i.sessions.0 (session_in new) w.in-Ok.told c.self.invariant.one_capacity w.in-Ok.ensures.ok))
      | in-Err w ↦ rw w.result-is
          (refused c.args.self.now parts (answer c.args.session) w.in-Err.fault (Made i.keeper i.policy new) c.self.view_is
          (ap (with_all m) w.in-Err.ensures.err.1) (λ _. no_answer m c.args.session i.sessions.0 c.self.invariant.one_capacity
          w.in-Err.ensures.not_now) (λ _. w.in-Err.ensures.turn) w.in-Err.ensures.err.0)
    ]
