use Rattle.std.proofs.Common.{sym}
use Rattle.open_session.specs.Steps.{Begins}
use Rattle.interleaving_core.proofs.Lifts.{share_stays, still_new, on_ok_map, on_err_map, written_shares, written_same, written_steps}
use Rattle.interleaving_core.proofs.sessions.Sessions.begin.Goals as goal

pub invariant_of-self : goal.invariant_of-self
invariant_of-self c =
    let i = c.self.inside in (
      c.self.invariant.0,
      written_shares c.args.self.now i.capacity c.args.number i.by_number c.self.view_is c.self.invariant.1
          c.in-Some.session.now c.in-Some.ensures.value c.begin.new.self (c.get_mut.follows.lender c.begin.new.self)
          (c.get_mut.follows.holds c.begin.new.self) c.begin.ensures.capacity,
    )

pub returns-in-Some-clause-ok : goal.returns-in-Some-clause-ok
returns-in-Some-clause-ok c =
    let i = c.self.inside in
    on_ok_map c.begin.result c.begin.ensures.ok (written_steps c.args.self.now i.capacity c.args.number i.by_number c.self.view_is
    c.self.invariant.1 c.in-Some.session.now c.in-Some.ensures.value c.begin.new.self (c.get_mut.follows.lender c.begin.new.self)
    (c.get_mut.follows.holds c.begin.new.self)
    (λ k. Begins (record { profile = c.args.profile.now; path = c.args.path.now; ask = c.args.ask })))

pub returns-in-Some-clause-err : goal.returns-in-Some-clause-err
returns-in-Some-clause-err c =
    let i = c.self.inside in
    on_err_map c.begin.result c.begin.ensures.err (written_same c.args.self.now i.capacity c.args.number i.by_number c.self.view_is
    c.self.invariant.1 c.in-Some.session.now c.in-Some.ensures.value c.begin.new.self (c.get_mut.follows.lender c.begin.new.self)
    (c.get_mut.follows.holds c.begin.new.self))

pub invariant_of-self-in-None : goal.invariant_of-self-in-None
invariant_of-self-in-None c =
    let i = c.self.inside in (
      c.self.invariant.0,
      share_stays i.capacity i.by_number c.get_mut.follows.lender-at-none c.self.invariant.1
          c.get_mut.follows.holds-at-none,
    )

pub begin_first-requires : goal.begin_first-requires
begin_first-requires c =
    let i = c.self.inside in
    sym (still_new i.capacity c.args.number i.by_number c.get_mut.follows.lender-at-none c.in-None.ensures.value
    c.get_mut.follows.holds-at-none)
