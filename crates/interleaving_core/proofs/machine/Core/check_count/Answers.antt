use Rattle.std.proofs.Common.{ℕ, ap, subst}
use Rattle.std.proofs.lemmas.Result.{on_ok_weaker, on_err_weaker}
use Rattle.event_machine.specs.Machine.Event.{check_count}
use Rattle.interleaving_core.specs.Table.{session_in}
use Rattle.interleaving_core.specs.inner.Consistency.{parts_in}
use Rattle.interleaving_core.proofs.Lawful.{no_check_count}
use Rattle.interleaving_core.proofs.Steps.{with_all, checks_count}
use Rattle.interleaving_core.proofs.Consistency.{Made, stepped, sessions_stand, turned_away, never_memory}
use Rattle.open_session.specs.Seen.{SeesTree}
use Rattle.interleaving_core.proofs.machine.Core.check_count.Goals as goal

pub check_count-requires : goal.check_count-requires
check_count-requires c =
    let i = c.self.inside in
    let m = Made i.keeper i.policy i.sessions in
    subst (λ (n : ℕ). SeesTree n i.keeper.1 (session_in i.sessions c.args.session).stage) c.self.invariant.one_capacity
    (c.rule_gives_what_steps_require.ensures.sees m c.args.session c.self.invariant.keeps)

pub invariant_of-self : goal.invariant_of-self
invariant_of-self c =
    let i = c.self.inside in
    let m = Made i.keeper i.policy i.sessions in
    let new = c.check_count.new.self in
    sessions_stand c.steps_keep_rule.ensures.step i.keeper i.policy i.sessions new (check_count c.args.session) c.check_count.result
    c.self.invariant c.check_count.ensures.capacity (on_ok_weaker c.check_count.result (checks_count m c.args.session (session_in new))
    c.check_count.ensures.ok) c.check_count.ensures.err

pub returns : goal.returns
returns c =
    let i = c.self.inside in
    let m = Made i.keeper i.policy i.sessions in
    let new = c.check_count.new.self in
    rw c.silent.ensures
    (stepped c.args.self.now (parts_in i.keeper i.policy i.sessions) (check_count c.args.session) (Made i.keeper i.policy new)
    c.self.view_is c.check_count.result (on_ok_weaker c.check_count.result (checks_count m c.args.session (session_in new))
    c.check_count.ensures.ok)
    (on_err_weaker c.check_count.result (ap (with_all m)) c.check_count.ensures.err)
    (turned_away m (check_count c.args.session) _ c.check_count.result (no_check_count m c.args.session) c.check_count.ensures.not_now)
    c.check_count.ensures.turn (never_memory _ c.check_count.result c.check_count.ensures.memory))
