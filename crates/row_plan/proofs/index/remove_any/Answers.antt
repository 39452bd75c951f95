use Rattle.std.proofs.Common.{ℕ, refl, sym, subst}
use Rattle.std.specs.Prelude.{Option}
use Rattle.std.proofs.lemmas.Result.{on_ok_weaker}
use Rattle.row_rule.specs.Row.{write}
use Rattle.row_plan.specs.Leaves.{RemovesAny}
use Rattle.row_plan.specs.inner.Planned.{MayRemove, PlansRemoval}
use Rattle.row_plan.proofs.index.remove_any.Goals as goal

pub remove_from_index-requires-clause-planned : goal.remove_from_index-requires-clause-planned
remove_from_index-requires-clause-planned g c =
    let k = g.C.Cells.kept c.args.cells.now in
    subst (MayRemove (g.C.Cells.capacity_of k) (g.C.Cells.whole k) c.args.plan.now.items c.args.directory c.args.component.now)
    c.in-Some.is c.requires.planned

pub returns-in-Some-clause-ok : goal.returns-in-Some-clause-ok
returns-in-Some-clause-ok g c =
    let k = g.C.Cells.kept c.args.cells.now in
    on_ok_weaker c.remove_from_index.result
    (subst (λ (o : Option ℕ). PlansRemoval (g.C.Cells.capacity_of k) (g.C.Cells.whole k) o c.args.plan.now.items
    c.remove_from_index.new.plan.items) (sym c.in-Some.is)) c.remove_from_index.ensures.ok

pub returns-in-None-clause-ok : goal.returns-in-None-clause-ok
returns-in-None-clause-ok g c row w whole enc =
    let now = write row c.args.plan.now.items in (
      (c.requires.planned row w whole enc).0,
      subst (λ (o : Option ℕ). RemovesAny (g.C.Cells.capacity_of (g.C.Cells.kept c.args.cells.now)) row o now now) (sym c.in-None.is) refl,
    )
