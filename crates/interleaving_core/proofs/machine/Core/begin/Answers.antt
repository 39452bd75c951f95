use Rattle.std.proofs.Common.{ap}
use Rattle.std.proofs.lemmas.Result.{on_ok_weaker, on_err_weaker}
use Rattle.event_machine.specs.Machine.Event.{begin}
use Rattle.event_machine.specs.Machine.{Call}
use Rattle.interleaving_core.specs.Table.{session_in}
use Rattle.interleaving_core.specs.inner.Consistency.{parts_in}
use Rattle.interleaving_core.proofs.Lawful.{no_begin}
use Rattle.interleaving_core.proofs.Steps.{with_all, begins}
use Rattle.interleaving_core.proofs.Consistency.{Made, stepped, sessions_stand, turned_away}
use Rattle.interleaving_core.proofs.machine.Core.begin.Goals as goal

pub invariant_of-self : goal.invariant_of-self
invariant_of-self c =
    let i = c.self.inside in
    let m = Made i.keeper i.policy i.sessions in
    let call : Call = record { profile = c.args.profile.now; path = c.args.path.now; ask = c.args.ask } in
    let new = c.begin.new.self in
    sessions_stand c.steps_keep_rule.ensures.step i.keeper i.policy i.sessions new (begin c.args.session call) c.begin.result
    c.self.invariant c.begin.ensures.capacity (on_ok_weaker c.begin.result (begins m c.args.session (session_in new) call)
    c.begin.ensures.ok) c.begin.ensures.err

pub returns : goal.returns
returns c =
    let i = c.self.inside in
    let m = Made i.keeper i.policy i.sessions in
    let call : Call = record { profile = c.args.profile.now; path = c.args.path.now; ask = c.args.ask } in
    let new = c.begin.new.self in
    rw c.silent.ensures
    (stepped c.args.self.now (parts_in i.keeper i.policy i.sessions) (begin c.args.session call) (Made i.keeper i.policy new)
    c.self.view_is c.begin.result (on_ok_weaker c.begin.result (begins m c.args.session (session_in new) call) c.begin.ensures.ok)
    (on_err_weaker c.begin.result (ap (with_all m)) c.begin.ensures.err)
    (turned_away m (begin c.args.session call) _ c.begin.result (no_begin m c.args.session call) c.begin.ensures.not_now)
    c.begin.ensures.turn c.begin.ensures.memory)
