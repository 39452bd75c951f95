use Rattle.std.proofs.Common.{ℕ, ◌∙◌, ap}
use Rattle.event_machine.specs.Machine.{Session}
use Rattle.interleaving_core.proofs.Lifts.{share_inserted}
use Rattle.interleaving_core.proofs.sessions.Sessions.begin_first.Goals as goal

pub invariant_of-self : goal.invariant_of-self
invariant_of-self c =
    let i = c.self.inside in (
      c.self.invariant.0,
      share_inserted c.insert.result c.args.number i.by_number c.insert.new.self c.begin.new.self c.insert.ensures.updates
          c.insert.ensures.err i.capacity c.self.invariant.1
          (c.begin.ensures.capacity ∙ ap (λ (s : ℕ × Session). s.0) c.in-Ok.ensures),
    )
