use Rattle.std.proofs.Common.{refl, subst}
use Rattle.event_machine.specs.Machine.{Session}
use Rattle.open_session.specs.Steps.{Answers, MayTell}
use Rattle.open_session.specs.Turns.{IsAnswerable}
use Rattle.interleaving_core.proofs.Lifts.{stays, share_stays, not_there, no_tale, no_answer_yet, on_err_map, if_ok_map, if_err_map}
use Rattle.interleaving_core.proofs.Lifts.{of_found, written_shares, written_same, written_steps}
use Rattle.interleaving_core.proofs.sessions.Sessions.answer.Goals as goal
use Rattle.interleaving_core.proofs.sessions.Sessions.answer.Goals.{in-Some, in-None}

pub invariant_of-self : goal.invariant_of-self
invariant_of-self c =
    let i = c.self.inside in
    elim c.match-get_mut.branch [
      | in-Some w ↦ rw w.self-inside-is (
        c.self.invariant.0,
        written_shares c.args.self.now i.capacity c.args.number i.by_number
            c.self.view_is c.self.invariant.1 w.in-Some.session.now w.in-Some.ensures.value w.answer.new.self
            (c.get_mut.follows.lender w.answer.new.self) (c.get_mut.follows.holds w.answer.new.self) w.answer.ensures.capacity,
      )
      | in-None w ↦ rw w.self-inside-is (
        c.self.invariant.0,
        share_stays i.capacity i.by_number c.get_mut.follows.lender-at-none
            c.self.invariant.1 c.get_mut.follows.holds-at-none,
      )
    ]

pub returns-clause-ok : goal.returns-clause-ok
returns-clause-ok c =
    let i = c.self.inside in
    elim c.match-get_mut.branch [
      | in-Some w ↦ rw (w.result-is, w.self-inside-is)
          (if_ok_map w.answer.result w.answer.ensures.ok (λ told. written_steps c.args.self.now i.capacity c.args.number i.by_number
          c.self.view_is c.self.invariant.1 w.in-Some.session.now w.in-Some.ensures.value w.answer.new.self
          (c.get_mut.follows.lender w.answer.new.self) (c.get_mut.follows.holds w.answer.new.self) (λ k. Answers k told)))
      | in-None w ↦ rw w.result-is tt
    ]

pub returns-clause-err : goal.returns-clause-err
returns-clause-err c =
    let i = c.self.inside in
    elim c.match-get_mut.branch [
      | in-Some w ↦ rw (w.result-is, w.self-inside-is) (if_err_map w.answer.result w.answer.ensures.err
          (λ fault e. (
            e.0,
            written_same c.args.self.now i.capacity c.args.number i.by_number c.self.view_is c.self.invariant.1
                w.in-Some.session.now w.in-Some.ensures.value w.answer.new.self (c.get_mut.follows.lender w.answer.new.self)
                (c.get_mut.follows.holds w.answer.new.self) e.1,
          )))
      | in-None w ↦ rw (w.result-is, w.self-inside-is) (
        refl,
        stays c.args.self.now i.capacity i.by_number c.get_mut.follows.lender-at-none
            c.self.view_is c.get_mut.follows.holds-at-none,
      )
    ]

pub returns-clause-not_now : goal.returns-clause-not_now
returns-clause-not_now c =
    let i = c.self.inside in
    elim c.match-get_mut.branch [
      | in-Some w ↦ rw w.result-is (on_err_map w.answer.result w.answer.ensures.not_now
          (of_found c.args.self.now i.capacity c.args.number i.by_number c.self.view_is c.self.invariant.1 w.in-Some.session.now
          w.in-Some.ensures.value (λ k s. ¬ (MayTell k s))))
      | in-None w ↦ rw w.result-is (subst (λ (s : Session). ¬ (MayTell c.args.self.now.0 s))
          (not_there c.args.self.now i.capacity c.args.number i.by_number c.self.view_is w.in-None.ensures.value)
          (no_tale c.args.self.now.0))
    ]

pub returns-clause-turn : goal.returns-clause-turn
returns-clause-turn c =
    let i = c.self.inside in
    elim c.match-get_mut.branch [
      | in-Some w ↦ rw w.result-is (on_err_map w.answer.result w.answer.ensures.turn
          (of_found c.args.self.now i.capacity c.args.number i.by_number c.self.view_is c.self.invariant.1 w.in-Some.session.now
          w.in-Some.ensures.value (λ k s. ¬ (IsAnswerable s.stage))))
      | in-None w ↦ rw w.result-is (subst (λ (s : Session). ¬ (IsAnswerable s.stage))
          (not_there c.args.self.now i.capacity c.args.number i.by_number c.self.view_is w.in-None.ensures.value) no_answer_yet)
    ]
