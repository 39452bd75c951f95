use Rattle.std.proofs.Common.{◌∙◌, ap}
use Rattle.std.proofs.lemmas.Result.{on_ok_weaker, on_err_weaker}
use Rattle.event_machine.specs.Machine.Event.{read_cell}
use Rattle.interleaving_core.specs.Table.{session_in}
use Rattle.interleaving_core.specs.inner.Consistency.{parts_in}
use Rattle.interleaving_core.proofs.Lawful.{no_read_cell}
use Rattle.interleaving_core.proofs.Steps.{with_all, reads_cell}
use Rattle.interleaving_core.proofs.Consistency.{Made, stepped, sessions_stand, turned_away}
use Rattle.tree_row.specs.Rows.{row_length}
use Rattle.interleaving_core.proofs.machine.Core.read_cell.Goals as goal

pub read_cell-read-requires : goal.read_cell-read-requires
read_cell-read-requires c =
    let i = c.self.inside in
    record {
      capacity = c.self.invariant.one_capacity;
      long = c.rule_gives_what_steps_require.ensures.long (Made i.keeper i.policy i.sessions) c.self.invariant.keeps
          ∙ ap row_length c.self.invariant.one_capacity;
    }

pub invariant_of-self : goal.invariant_of-self
invariant_of-self c =
    let i = c.self.inside in
    let m = Made i.keeper i.policy i.sessions in
    let new = c.read_cell-read.new.self in
    sessions_stand c.steps_keep_rule.ensures.step i.keeper i.policy i.sessions new (read_cell c.args.session) c.read_cell-read.result
    c.self.invariant c.read_cell-read.ensures.capacity
    (on_ok_weaker c.read_cell-read.result (reads_cell m c.args.session i.sessions.0 (session_in new) c.self.invariant.one_capacity)
    c.read_cell-read.ensures.ok) c.read_cell-read.ensures.err

pub returns : goal.returns
returns c =
    let i = c.self.inside in
    let m = Made i.keeper i.policy i.sessions in
    let new = c.read_cell-read.new.self in
    rw c.silent.ensures
    (stepped c.args.self.now (parts_in i.keeper i.policy i.sessions) (read_cell c.args.session) (Made i.keeper i.policy new) c.self.view_is
    c.read_cell-read.result
    (on_ok_weaker c.read_cell-read.result (reads_cell m c.args.session i.sessions.0 (session_in new) c.self.invariant.one_capacity)
    c.read_cell-read.ensures.ok)
    (on_err_weaker c.read_cell-read.result (ap (with_all m)) c.read_cell-read.ensures.err)
    (turned_away m (read_cell c.args.session) _ c.read_cell-read.result
    (no_read_cell m c.args.session i.sessions.0 c.self.invariant.one_capacity) c.read_cell-read.ensures.not_now)
    c.read_cell-read.ensures.turn c.read_cell-read.ensures.memory)
