use Rattle.std.proofs.Common.{ℕ, ◌≡◌, ◌∙◌, ◌<◌, ◌≤◌, [], IfOk, IfErr, ap, subst}
use Rattle.std.proofs.lemmas.Result.{IfOk-weaker, IfErr-weaker}
use Rattle.tree_row.specs.Rows.{row_length}
use Rattle.event_machine.specs.declared.event.StepFault.{StepFault}
use Rattle.event_machine.specs.declared.event.StepFault.TheVariants.{NoMemory}
use Rattle.event_machine.specs.Runs.{Runs}
use Rattle.event_machine.specs.Lawful.{cell_reads}
use Rattle.open_session.specs.Steps.{CellReads}
use Rattle.interleaving_core.specs.Table.{session_in, StepsIn}
use Rattle.interleaving_core.specs.Parts.{Parts, machine_of}
use Rattle.interleaving_core.proofs.Steps.{reads_cells}
use Rattle.interleaving_core.proofs.Consistency.{Made, sessions_read}
use Rattle.interleaving_core.proofs.event_steps.CoreEventMachine.read_cells.Goals as goal
use Rattle.interleaving_core.proofs.event_steps.CoreEventMachine.read_cells.Goals.{After-read_cells}

pub read_cells-requires-clause-long : goal.read_cells-requires-clause-long
read_cells-requires-clause-long c =
    let i = c.self.inside in
    c.rule_gives_what_steps_require.ensures.long (Made i.keeper i.policy i.sessions) c.self.invariant.keeps
    ∙ ap row_length c.self.invariant.one_capacity

-- as many cells were read as the result says
ran : (c : After-read_cells)
    → IfOk c.read_cells.result
    (λ count. (count ≤ c.args.most) × Runs (Made c.self.inside.keeper c.self.inside.policy c.self.inside.sessions)
    (cell_reads c.args.session count) [] (Made c.self.inside.keeper c.self.inside.policy c.read_cells.new.self))
ran c =
    let i = c.self.inside in
    IfOk-weaker c.read_cells.result
    (λ (count : ℕ). (count ≤ c.args.most) × StepsIn (CellReads i.sessions.0 i.keeper.1.cells count) c.args.session (session_in i.sessions)
    (session_in c.read_cells.new.self))
    (λ (count : ℕ). (count ≤ c.args.most) × Runs (Made i.keeper i.policy i.sessions) (cell_reads c.args.session count) []
    (Made i.keeper i.policy c.read_cells.new.self))
    (λ count done. (
      done.0,
      reads_cells (Made i.keeper i.policy i.sessions) c.args.session count i.sessions.0
          (session_in c.read_cells.new.self) c.self.invariant.one_capacity done.1,
    ))
    c.read_cells.ensures.ok

fell_short : (c : After-read_cells)
    → IfErr c.read_cells.result
    (λ fault. (fault ≡ NoMemory)
    × ((count : ℕ) × (count < c.args.most) × Runs (Made c.self.inside.keeper c.self.inside.policy c.self.inside.sessions)
    (cell_reads c.args.session count) [] (Made c.self.inside.keeper c.self.inside.policy c.read_cells.new.self)))
fell_short c =
    let i = c.self.inside in
    IfErr-weaker c.read_cells.result
    (λ (fault : StepFault). (fault ≡ NoMemory)
    × ((count : ℕ) × (count < c.args.most) × StepsIn (CellReads i.sessions.0 i.keeper.1.cells count) c.args.session
    (session_in i.sessions) (session_in c.read_cells.new.self)))
    (λ (fault : StepFault). (fault ≡ NoMemory) × ((count : ℕ) × (count < c.args.most) × Runs (Made i.keeper i.policy i.sessions)
    (cell_reads c.args.session count) [] (Made i.keeper i.policy c.read_cells.new.self)))
    (λ fault e. (
      e.0,
      (
        e.1.0,
        e.1.1,
        reads_cells (Made i.keeper i.policy i.sessions) c.args.session e.1.0 i.sessions.0
            (session_in c.read_cells.new.self) c.self.invariant.one_capacity e.1.2,
      ),
    ))
    c.read_cells.ensures.err

pub invariant_of-self : goal.invariant_of-self
invariant_of-self c =
    let i = c.self.inside in
    sessions_read c.steps_keep_rule.ensures.run i.keeper i.policy i.sessions c.read_cells.new.self c.args.session c.args.most
    c.read_cells.result c.self.invariant c.read_cells.ensures.capacity (ran (goal.at.invariant_of-self c).After-read_cells)
    (fell_short (goal.at.invariant_of-self c).After-read_cells)

pub returns-clause-ok : goal.returns-clause-ok
returns-clause-ok c =
    let i = c.self.inside in
    subst (λ (p : Parts). IfOk c.read_cells.result (λ count. (count ≤ c.args.most) × Runs (machine_of p) (cell_reads c.args.session count)
    [] (Made i.keeper i.policy c.read_cells.new.self))) c.self.view_is
    (ran (goal.at.returns-clause-ok c).After-read_cells)

pub returns-clause-err : goal.returns-clause-err
returns-clause-err c =
    let i = c.self.inside in
    subst (λ (p : Parts). IfErr c.read_cells.result
    (λ fault. (fault ≡ NoMemory) × ((count : ℕ) × (count < c.args.most) × Runs (machine_of p) (cell_reads c.args.session count) []
    (Made i.keeper i.policy c.read_cells.new.self)))) c.self.view_is
    (fell_short (goal.at.returns-clause-err c).After-read_cells)

pub returns-clause-memory : goal.returns-clause-memory
returns-clause-memory c = c.read_cells.ensures.memory
