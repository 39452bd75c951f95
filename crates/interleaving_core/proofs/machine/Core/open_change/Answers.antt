use Rattle.std.proofs.Common.{ap}
use Rattle.std.proofs.lemmas.Result.{on_ok_weaker, on_err_weaker}
use Rattle.event_machine.specs.Machine.Event.{open_change}
use Rattle.interleaving_core.specs.inner.Consistency.{parts_in}
use Rattle.interleaving_core.proofs.Lawful.{no_open}
use Rattle.interleaving_core.proofs.Steps.{with_row, opens_change}
use Rattle.interleaving_core.proofs.Consistency.{Made, stepped, keeper_stands, turned_away, never_a_turn}
use Rattle.interleaving_core.proofs.machine.Core.open_change.Goals as goal

pub invariant_of-self : goal.invariant_of-self
invariant_of-self c =
    let i = c.self.inside in
    let m = Made i.keeper i.policy i.sessions in
    let new = c.open.new.self in
    let change = c.args.change.now in
    keeper_stands c.steps_keep_rule.ensures.step i.keeper new i.policy i.sessions (open_change change) c.open.result c.self.invariant
    c.open.ensures.capacity (on_ok_weaker c.open.result (opens_change m new change c.open.ensures.capacity) c.open.ensures.ok)
    c.open.ensures.same

pub returns : goal.returns
returns c =
    let i = c.self.inside in
    let m = Made i.keeper i.policy i.sessions in
    let new = c.open.new.self in
    let change = c.args.change.now in
    rw c.silent.ensures
    (stepped c.args.self.now (parts_in i.keeper i.policy i.sessions) (open_change change) (Made new i.policy i.sessions)
    c.self.view_is c.open.result (on_ok_weaker c.open.result (opens_change m new change c.open.ensures.capacity) c.open.ensures.ok)
    (on_err_weaker c.open.result (ap (with_row m)) c.open.ensures.same)
    (turned_away m (open_change change) _ c.open.result (no_open m change) c.open.ensures.not_now)
    (never_a_turn c.open.result) c.open.ensures.memory)
