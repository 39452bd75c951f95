use Rattle.open_session.specs.Steps.{ReadsPolicy}
use Rattle.interleaving_core.proofs.Lifts.{stays, share_stays, on_ok_map, on_err_map, written_shares, written_same, written_steps}
use Rattle.interleaving_core.proofs.sessions.Sessions.read_policy.Goals as goal
use Rattle.interleaving_core.proofs.sessions.Sessions.read_policy.Goals.{in-Some, in-None}

pub invariant_of-self : goal.invariant_of-self
invariant_of-self c =
    let i = c.self.inside in
    elim c.match-get_mut.branch [
      | in-Some w ↦ rw w.self-inside-is (
        c.self.invariant.0,
        written_shares c.args.self.now i.capacity c.args.number i.by_number
            c.self.view_is c.self.invariant.1 w.in-Some.session.now w.in-Some.ensures.value w.read_policy.new.self
            (c.get_mut.follows.lender w.read_policy.new.self) (c.get_mut.follows.holds w.read_policy.new.self)
            w.read_policy.ensures.capacity,
      )
      | in-None w ↦ rw w.self-inside-is (
        c.self.invariant.0,
        share_stays i.capacity i.by_number c.get_mut.follows.lender-at-none
            c.self.invariant.1 c.get_mut.follows.holds-at-none,
      )
    ]

pub returns-clause-ok : goal.returns-clause-ok
returns-clause-ok c =
    let i = c.self.inside in
    elim c.match-get_mut.branch [
      | in-Some w ↦ rw (w.result-is, w.self-inside-is) (on_ok_map w.read_policy.result w.read_policy.ensures.ok
          (written_steps c.args.self.now i.capacity c.args.number i.by_number c.self.view_is c.self.invariant.1 w.in-Some.session.now
          w.in-Some.ensures.value w.read_policy.new.self (c.get_mut.follows.lender w.read_policy.new.self)
          (c.get_mut.follows.holds w.read_policy.new.self) (λ k. ReadsPolicy c.args.policy.now)))
      | in-None w ↦ rw w.result-is tt
    ]

pub returns-clause-err : goal.returns-clause-err
returns-clause-err c =
    let i = c.self.inside in
    elim c.match-get_mut.branch [
      | in-Some w ↦ rw (w.result-is, w.self-inside-is) (on_err_map w.read_policy.result w.read_policy.ensures.err
          (written_same c.args.self.now i.capacity c.args.number i.by_number c.self.view_is c.self.invariant.1 w.in-Some.session.now
          w.in-Some.ensures.value w.read_policy.new.self (c.get_mut.follows.lender w.read_policy.new.self)
          (c.get_mut.follows.holds w.read_policy.new.self)))
      | in-None w ↦ rw (w.result-is, w.self-inside-is) (stays c.args.self.now i.capacity i.by_number c.get_mut.follows.lender-at-none
          c.self.view_is c.get_mut.follows.holds-at-none)
    ]
