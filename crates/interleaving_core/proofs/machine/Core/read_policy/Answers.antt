use Rattle.std.proofs.Common.{ap}
use Rattle.std.proofs.lemmas.Result.{on_ok_weaker, on_err_weaker}
use Rattle.event_machine.specs.Machine.Event.{read_policy}
use Rattle.interleaving_core.specs.Table.{session_in}
use Rattle.interleaving_core.specs.inner.Consistency.{parts_in}
use Rattle.interleaving_core.proofs.Lawful.{no_read_policy}
use Rattle.interleaving_core.proofs.Steps.{with_all, reads_policy}
use Rattle.interleaving_core.proofs.Consistency.{Made, stepped, sessions_stand, turned_away}
use Rattle.interleaving_core.proofs.machine.Core.read_policy.Goals as goal

pub invariant_of-self : goal.invariant_of-self
invariant_of-self c =
    let i = c.self.inside in
    let m = Made i.keeper i.policy i.sessions in
    let new = c.read_policy.new.self in
    sessions_stand c.steps_keep_rule.ensures.step i.keeper i.policy i.sessions new (read_policy c.args.session) c.read_policy.result
    c.self.invariant c.read_policy.ensures.capacity (on_ok_weaker c.read_policy.result (reads_policy m c.args.session (session_in new))
    c.read_policy.ensures.ok) c.read_policy.ensures.err

pub returns : goal.returns
returns c =
    let i = c.self.inside in
    let m = Made i.keeper i.policy i.sessions in
    let new = c.read_policy.new.self in
    rw c.silent.ensures
    (stepped c.args.self.now (parts_in i.keeper i.policy i.sessions) (read_policy c.args.session) (Made i.keeper i.policy new)
    c.self.view_is c.read_policy.result (on_ok_weaker c.read_policy.result (reads_policy m c.args.session (session_in new))
    c.read_policy.ensures.ok)
    (on_err_weaker c.read_policy.result (ap (with_all m)) c.read_policy.ensures.err)
    (turned_away m (read_policy c.args.session) _ c.read_policy.result (no_read_policy m c.args.session) c.read_policy.ensures.not_now)
    c.read_policy.ensures.turn c.read_policy.ensures.memory)
