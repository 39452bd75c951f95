use Rattle.std.proofs.Common.{ℕ, ◌≡◌, ◌∙◌, List, take, sym, ap, subst}
use Rattle.event_machine.specs.Machine.{Session}
use Rattle.open_session.specs.declared.stage.Stage.{Stage}
use Rattle.open_session.specs.inner.StageData.{IsWalk, stage_of}
use Rattle.open_session.proofs.Refusals.{no_cell, no_reading, reading_where}
use Rattle.open_session.proofs.Stands.{if_ok_map, if_err_map, walk_stands, carried}
use Rattle.open_session.proofs.session.SteppedSession.read_cells.Goals as goal

pub read_cells-walk-requires-clause-stands : goal.read_cells-walk-requires-clause-stands
read_cells-walk-requires-clause-stands c =
    let own = c.self.inside in
    let same : own.capacity ≡ c.row.result.now.0 =
    ap (λ (v : ℕ × Session). v.0) c.self.view_is ∙ sym c.requires.capacity ∙ sym (ap (λ (r : ℕ × List ℕ). r.0) c.row.ensures) in
    subst (λ (n : ℕ). IsWalk n c.deref_mut.result.now c.in-Walking.walk) same
    (subst (λ (room : List ℕ). IsWalk own.capacity room c.in-Walking.walk) (sym c.deref_mut.ensures.value)
    (walk_stands own.capacity own.room.value own.stage c.in-Walking.walk c.in-Walking.ensures.value c.self.invariant.2))

pub invariant_of-self : goal.invariant_of-self
invariant_of-self c =
    let same : c.row.result.now.0 ≡ c.self.inside.capacity =
    ap (λ (r : ℕ × List ℕ). r.0) c.row.ensures ∙ c.requires.capacity ∙ sym (ap (λ (v : ℕ × Session). v.0) c.self.view_is) in (
      c.self.invariant.0,
      c.self.invariant.1,
      subst (λ (n : ℕ). IsWalk n c.read_cells-walk.new.room c.read_cells-walk.result.walk) same c.read_cells-walk.ensures.stands,
    )

pub returns-in-Walking-clause-all : goal.returns-in-Walking-clause-all
returns-in-Walking-clause-all c =
    if_ok_map c.read_cells-walk.result.count c.read_cells-walk.ensures.all (λ count done few. no_cell _ _ _ _ _ _ (done few))

pub returns-in-Walking-clause-turn : goal.returns-in-Walking-clause-turn
returns-in-Walking-clause-turn c =
    if_ok_map c.read_cells-walk.result.count c.read_cells-walk.ensures.all (λ count done few. no_reading _ _ _ (done few))

pub returns-in-Walking-clause-err : goal.returns-in-Walking-clause-err
returns-in-Walking-clause-err c =
    let own = c.self.inside in
    let name = take own.name_length own.name.value in
    let row_is : c.row.result.now ≡ (c.args.self.now.0, c.args.keeper.now.1.cells) =
    c.row.ensures ∙ (λ i. (c.requires.capacity i, c.args.keeper.now.1.cells)) in
    let old_is = ap (λ (s : Stage). record { name = name; stage = stage_of s }) c.in-Walking.ensures.value
    ∙ ap (λ (v : ℕ × Session). v.1) c.self.view_is in
    if_err_map c.read_cells-walk.result.count c.read_cells-walk.ensures.err
    (λ fault e. (
      e.0,
      (
        e.1.0,
        e.1.1,
        carried c.row.result.now c.args.self.now.0 c.args.keeper.now.1.cells e.1.0 _ _ _ row_is old_is
            (e.1.2 name),
      ),
    ))

pub returns-in-Walking-clause-memory : goal.returns-in-Walking-clause-memory
returns-in-Walking-clause-memory c =
    reading_where c.read_cells-walk.result.count _ _ _ c.read_cells-walk.ensures.memory
