use Rattle.std.proofs.Common.{ap}
use Rattle.std.proofs.lemmas.Result.{on_ok_weaker, on_err_weaker}
use Rattle.event_machine.specs.Machine.Event.{read_count}
use Rattle.interleaving_core.specs.Table.{session_in}
use Rattle.interleaving_core.specs.inner.Consistency.{parts_in}
use Rattle.interleaving_core.proofs.Lawful.{no_read_count}
use Rattle.interleaving_core.proofs.Steps.{with_all, reads_count}
use Rattle.interleaving_core.proofs.Consistency.{Made, stepped, sessions_stand, turned_away, never_memory}
use Rattle.interleaving_core.proofs.machine.Core.read_count.Goals as goal

pub invariant_of-self : goal.invariant_of-self
invariant_of-self c =
    let i = c.self.inside in
    let m = Made i.keeper i.policy i.sessions in
    let new = c.read_count-read.new.self in
    sessions_stand c.steps_keep_rule.ensures.step i.keeper i.policy i.sessions new (read_count c.args.session) c.read_count-read.result
    c.self.invariant c.read_count-read.ensures.capacity
    (on_ok_weaker c.read_count-read.result (reads_count m c.args.session i.sessions.0 (session_in new) c.self.invariant.one_capacity)
    c.read_count-read.ensures.ok) c.read_count-read.ensures.err

pub returns : goal.returns
returns c =
    let i = c.self.inside in
    let m = Made i.keeper i.policy i.sessions in
    let new = c.read_count-read.new.self in
    rw c.silent.ensures
    (stepped c.args.self.now (parts_in i.keeper i.policy i.sessions) (read_count c.args.session) (Made i.keeper i.policy new)
    c.self.view_is c.read_count-read.result
    (on_ok_weaker c.read_count-read.result (reads_count m c.args.session i.sessions.0 (session_in new) c.self.invariant.one_capacity)
    c.read_count-read.ensures.ok)
    (on_err_weaker c.read_count-read.result (ap (with_all m)) c.read_count-read.ensures.err)
    (turned_away m (read_count c.args.session) _ c.read_count-read.result
    (no_read_count m c.args.session i.sessions.0 c.self.invariant.one_capacity) c.read_count-read.ensures.not_now)
    c.read_count-read.ensures.turn (never_memory _ c.read_count-read.result c.read_count-read.ensures.memory))
