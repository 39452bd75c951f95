use Rattle.open_session.specs.Steps.{ChecksCount}
use Rattle.open_session.specs.Seen.{SeesTree}
use Rattle.interleaving_core.proofs.Lifts.{to_found, stays, share_stays, on_ok_map, on_err_map, written_shares}
use Rattle.interleaving_core.proofs.Lifts.{written_same, written_steps}
use Rattle.interleaving_core.proofs.sessions.Sessions.check_count.Goals as goal
use Rattle.interleaving_core.proofs.sessions.Sessions.check_count.Goals.{in-Some, in-None}

pub check_count-requires : goal.check_count-requires
check_count-requires c =
    let i = c.self.inside in
    to_found c.args.self.now i.capacity c.args.number i.by_number c.self.view_is c.self.invariant.1 c.in-Some.session.now
    c.in-Some.ensures.value (λ k s. SeesTree k c.args.keeper.now.1 s.stage) c.requires

pub invariant_of-self : goal.invariant_of-self
invariant_of-self c =
    let i = c.self.inside in
    elim c.match-get_mut.branch [
      | in-Some w ↦ rw w.self-inside-is (
        c.self.invariant.0,
        written_shares c.args.self.now i.capacity c.args.number i.by_number
            c.self.view_is c.self.invariant.1 w.in-Some.session.now w.in-Some.ensures.value w.check_count.new.self
            (c.get_mut.follows.lender w.check_count.new.self) (c.get_mut.follows.holds w.check_count.new.self)
            w.check_count.ensures.capacity,
      )
      | in-None w ↦ rw w.self-inside-is (
        c.self.invariant.0,
        share_stays i.capacity i.by_number c.get_mut.follows.lender-at-none
            c.self.invariant.1 c.get_mut.follows.holds-at-none,
      )
    ]

pub returns-clause-ok : goal.returns-clause-ok
returns-clause-ok c =
    let i = c.self.inside in
    elim c.match-get_mut.branch [
      | in-Some w ↦ rw (w.result-is, w.self-inside-is) (on_ok_map w.check_count.result w.check_count.ensures.ok
          (written_steps c.args.self.now i.capacity c.args.number i.by_number c.self.view_is c.self.invariant.1 w.in-Some.session.now
          w.in-Some.ensures.value w.check_count.new.self (c.get_mut.follows.lender w.check_count.new.self)
          (c.get_mut.follows.holds w.check_count.new.self) (λ k. ChecksCount c.args.keeper.now.1)))
      | in-None w ↦ rw w.result-is tt
    ]

pub returns-clause-err : goal.returns-clause-err
returns-clause-err c =
    let i = c.self.inside in
    elim c.match-get_mut.branch [
      | in-Some w ↦ rw (w.result-is, w.self-inside-is) (on_err_map w.check_count.result w.check_count.ensures.err
          (written_same c.args.self.now i.capacity c.args.number i.by_number c.self.view_is c.self.invariant.1 w.in-Some.session.now
          w.in-Some.ensures.value w.check_count.new.self (c.get_mut.follows.lender w.check_count.new.self)
          (c.get_mut.follows.holds w.check_count.new.self)))
      | in-None w ↦ rw (w.result-is, w.self-inside-is) (stays c.args.self.now i.capacity i.by_number c.get_mut.follows.lender-at-none
          c.self.view_is c.get_mut.follows.holds-at-none)
    ]
