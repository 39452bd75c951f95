use Rattle.std.proofs.Common.{ℕ, ◌≡◌, ◌∙◌, take, sym, ap, subst}
use Rattle.event_machine.specs.Machine.{Session}
use Rattle.open_session.specs.Steps.{ReadsCount}
use Rattle.open_session.specs.inner.StageData.{IsWalk, walking_of}
use Rattle.open_session.proofs.Stands.{begun_count}
use Rattle.open_session.proofs.session.SteppedSession.read_count.Goals as goal

pub invariant_of-self : goal.invariant_of-self
invariant_of-self c =
    let same : c.args.keeper.now.0 ≡ c.self.inside.capacity = c.requires ∙ sym (ap (λ (v : ℕ × Session). v.0) c.self.view_is) in (
      c.self.invariant.0,
      c.self.invariant.1,
      subst (λ (n : ℕ). IsWalk n c.begin-walk.new.room c.begin-walk.result) same
          c.begin-walk.ensures.stands,
    )

pub returns-in-Policed-clause-ok : goal.returns-in-Policed-clause-ok
returns-in-Policed-clause-ok c =
    let own = c.self.inside in
    let name = take own.name_length own.name.value in
    let same : c.args.keeper.now.0 ≡ own.capacity = c.requires ∙ sym (ap (λ (v : ℕ × Session). v.0) c.self.view_is) in
    subst (λ (v : ℕ × Session). ReadsCount v.0 c.args.keeper.now.1 v.1 record { name = name; stage = walking_of c.begin-walk.result })
    c.self.view_is (begun_count own.capacity c.begin-walk.new.room name c.in-Policed.policed own.stage c.args.keeper.now.1
    c.begin-walk.result c.in-Policed.ensures.value (subst (λ (n : ℕ). IsWalk n c.begin-walk.new.room c.begin-walk.result) same
    c.begin-walk.ensures.stands)
    c.begin-walk.ensures.policed c.begin-walk.ensures.begun)
