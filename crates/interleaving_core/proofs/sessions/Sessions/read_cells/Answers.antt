use Rattle.std.proofs.Common.{◌∙◌, sym, ap, subst, arith}
use Rattle.event_machine.specs.Machine.{Session}
use Rattle.tree_row.specs.Rows.{row_length}
use Rattle.open_session.specs.Steps.{ReadsCell, CellReads, MayStep}
use Rattle.open_session.specs.Turns.{IsReading}
use Rattle.interleaving_core.proofs.Lifts.{found_capacity, stays, share_stays, none_steps, still_new, no_cell_yet}
use Rattle.interleaving_core.proofs.Lifts.{no_reading_yet, if_ok_map}
use Rattle.interleaving_core.proofs.Lifts.{if_err_map, on_err_map, of_written, written_shares, written_steps}
use Rattle.interleaving_core.proofs.sessions.Sessions.read_cells.Goals as goal
use Rattle.interleaving_core.proofs.sessions.Sessions.read_cells.Goals.{in-Some, in-None}

pub read_cells-requires : goal.read_cells-requires
read_cells-requires c =
    let i = c.self.inside in
    let same = sym (found_capacity c.args.self.now i.capacity c.args.number i.by_number c.self.view_is c.self.invariant.1
    c.in-Some.session.now c.in-Some.ensures.value) in
    record { capacity = c.requires.capacity ∙ same; long = c.requires.long ∙ ap row_length same }

pub invariant_of-self : goal.invariant_of-self
invariant_of-self c =
    let i = c.self.inside in
    elim c.match-get_mut.branch [
      | in-Some w ↦ rw w.self-inside-is (
        c.self.invariant.0,
        written_shares c.args.self.now i.capacity c.args.number i.by_number
            c.self.view_is c.self.invariant.1 w.in-Some.session.now w.in-Some.ensures.value w.read_cells.new.self
            (c.get_mut.follows.lender w.read_cells.new.self) (c.get_mut.follows.holds w.read_cells.new.self) w.read_cells.ensures.capacity,
      )
      | in-None w ↦ rw w.self-inside-is (
        c.self.invariant.0,
        share_stays i.capacity i.by_number c.get_mut.follows.lender-at-none
            c.self.invariant.1 c.get_mut.follows.holds-at-none,
      )
    ]

pub returns-clause-ok : goal.returns-clause-ok
returns-clause-ok c =
    let i = c.self.inside in
    elim c.match-get_mut.branch [
      | in-Some w ↦ rw (w.result-is, w.self-inside-is) (if_ok_map w.read_cells.result w.read_cells.ensures.ok
          (λ count done. (
            done.0,
            written_steps c.args.self.now i.capacity c.args.number i.by_number c.self.view_is c.self.invariant.1
                w.in-Some.session.now w.in-Some.ensures.value w.read_cells.new.self (c.get_mut.follows.lender w.read_cells.new.self)
                (c.get_mut.follows.holds w.read_cells.new.self) (λ k. CellReads k c.args.keeper.now.1.cells count) done.1,
          )))
      | in-None w ↦ rw (w.result-is, w.self-inside-is) (
        omega arith,
        none_steps c.args.self.now c.args.number _
            (stays c.args.self.now i.capacity i.by_number c.get_mut.follows.lender-at-none c.self.view_is c.get_mut.follows.holds-at-none),
      )
    ]

pub returns-clause-all : goal.returns-clause-all
returns-clause-all c =
    let i = c.self.inside in
    elim c.match-get_mut.branch [
      | in-Some w ↦ rw (w.result-is, w.self-inside-is) (if_ok_map w.read_cells.result w.read_cells.ensures.all
          (λ count none few. of_written c.args.self.now i.capacity c.args.number i.by_number c.self.view_is c.self.invariant.1
          w.in-Some.session.now w.in-Some.ensures.value w.read_cells.new.self (c.get_mut.follows.lender w.read_cells.new.self)
          (c.get_mut.follows.holds w.read_cells.new.self) (λ k s. ¬ (MayStep (ReadsCell k c.args.keeper.now.1.cells) s)) (none few)))
      | in-None w ↦ rw (w.result-is, w.self-inside-is)
          (λ few. subst (λ (s : Session). ¬ (MayStep (ReadsCell c.args.self.now.0 c.args.keeper.now.1.cells) s))
          (still_new i.capacity c.args.number i.by_number c.get_mut.follows.lender-at-none w.in-None.ensures.value
          c.get_mut.follows.holds-at-none) (no_cell_yet c.args.self.now.0 c.args.keeper.now.1.cells))
    ]

pub returns-clause-turn : goal.returns-clause-turn
returns-clause-turn c =
    let i = c.self.inside in
    elim c.match-get_mut.branch [
      | in-Some w ↦ rw (w.result-is, w.self-inside-is) (if_ok_map w.read_cells.result w.read_cells.ensures.turn
          (λ count none few. of_written c.args.self.now i.capacity c.args.number i.by_number c.self.view_is c.self.invariant.1
          w.in-Some.session.now w.in-Some.ensures.value w.read_cells.new.self (c.get_mut.follows.lender w.read_cells.new.self)
          (c.get_mut.follows.holds w.read_cells.new.self) (λ k s. ¬ (IsReading s.stage)) (none few)))
      | in-None w ↦ rw (w.result-is, w.self-inside-is) (λ few. subst (λ (s : Session). ¬ (IsReading s.stage))
          (still_new i.capacity c.args.number i.by_number c.get_mut.follows.lender-at-none w.in-None.ensures.value
          c.get_mut.follows.holds-at-none) no_reading_yet)
    ]

pub returns-clause-err : goal.returns-clause-err
returns-clause-err c =
    let i = c.self.inside in
    elim c.match-get_mut.branch [
      | in-Some w ↦ rw (w.result-is, w.self-inside-is) (if_err_map w.read_cells.result w.read_cells.ensures.err
          (λ fault e. (
            e.0,
            (
              e.1.0,
              e.1.1,
              written_steps c.args.self.now i.capacity c.args.number i.by_number c.self.view_is
                  c.self.invariant.1 w.in-Some.session.now w.in-Some.ensures.value w.read_cells.new.self
                  (c.get_mut.follows.lender w.read_cells.new.self) (c.get_mut.follows.holds w.read_cells.new.self)
                  (λ k. CellReads k c.args.keeper.now.1.cells e.1.0) e.1.2,
            ),
          )))
      | in-None w ↦ rw w.result-is tt
    ]

pub returns-clause-memory : goal.returns-clause-memory
returns-clause-memory c =
    let i = c.self.inside in
    elim c.match-get_mut.branch [
      | in-Some w ↦ rw (w.result-is, w.self-inside-is) (on_err_map w.read_cells.result w.read_cells.ensures.memory
          (of_written c.args.self.now i.capacity c.args.number i.by_number c.self.view_is c.self.invariant.1
          w.in-Some.session.now w.in-Some.ensures.value w.read_cells.new.self (c.get_mut.follows.lender w.read_cells.new.self)
          (c.get_mut.follows.holds w.read_cells.new.self) (λ k s. IsReading s.stage)))
      | in-None w ↦ rw w.result-is tt
    ]
