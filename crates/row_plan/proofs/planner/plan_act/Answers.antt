use Rattle.std.proofs.Common.{sym, subst}
use Rattle.std.proofs.lemmas.Result.{IfOk-weaker}
use Rattle.change_checks.specs.declared.act.Act.{Act}
use Rattle.tree_row.specs.declared.look.RowEntry.{RowEntry}
use Rattle.row_plan.specs.inner.Acts.{PassedTests, PlansAct}
use Rattle.row_plan.proofs.planner.plan_act.Goals as goal

pub plan_make-requires-clause-tested : goal.plan_make-requires-clause-tested
plan_make-requires-clause-tested g c =
    let k = g.C.Cells.kept c.args.cells.now in
    subst (λ (a : Act RowEntry). PassedTests (g.C.Cells.capacity_of k) (g.C.Cells.whole k) a) c.in-Make.is c.requires.tested

pub plan_link-requires-clause-tested : goal.plan_link-requires-clause-tested
plan_link-requires-clause-tested g c =
    let k = g.C.Cells.kept c.args.cells.now in
    subst (λ (a : Act RowEntry). PassedTests (g.C.Cells.capacity_of k) (g.C.Cells.whole k) a) c.in-Link.is c.requires.tested

pub plan_remove-requires-clause-tested : goal.plan_remove-requires-clause-tested
plan_remove-requires-clause-tested g c =
    let k = g.C.Cells.kept c.args.cells.now in
    subst (λ (a : Act RowEntry). PassedTests (g.C.Cells.capacity_of k) (g.C.Cells.whole k) a) c.in-Remove.is c.requires.tested

pub plan_move-requires-clause-tested : goal.plan_move-requires-clause-tested
plan_move-requires-clause-tested g c =
    let k = g.C.Cells.kept c.args.cells.now in
    subst (λ (a : Act RowEntry). PassedTests (g.C.Cells.capacity_of k) (g.C.Cells.whole k) a) c.in-Move.is c.requires.tested

pub returns-in-Make-clause-ok : goal.returns-in-Make-clause-ok
returns-in-Make-clause-ok g c =
    let k = g.C.Cells.kept c.args.cells.now in
    IfOk-weaker c.plan_make.result _ _
    (λ plan h. subst (λ (a : Act RowEntry). PlansAct (g.C.Cells.capacity_of k) (g.C.Cells.whole k) c.args.next a plan.items)
    (sym c.in-Make.is) h) c.plan_make.ensures.ok

pub returns-in-Link-clause-ok : goal.returns-in-Link-clause-ok
returns-in-Link-clause-ok g c =
    let k = g.C.Cells.kept c.args.cells.now in
    IfOk-weaker c.plan_link.result _ _
    (λ plan h. subst (λ (a : Act RowEntry). PlansAct (g.C.Cells.capacity_of k) (g.C.Cells.whole k) c.args.next a plan.items)
    (sym c.in-Link.is) (h c.args.next)) c.plan_link.ensures.ok

pub returns-in-Remove-clause-ok : goal.returns-in-Remove-clause-ok
returns-in-Remove-clause-ok g c =
    let k = g.C.Cells.kept c.args.cells.now in
    IfOk-weaker c.plan_remove.result _ _
    (λ plan h. subst (λ (a : Act RowEntry). PlansAct (g.C.Cells.capacity_of k) (g.C.Cells.whole k) c.args.next a plan.items)
    (sym c.in-Remove.is) (h c.args.next)) c.plan_remove.ensures.ok

pub returns-in-Move-clause-ok : goal.returns-in-Move-clause-ok
returns-in-Move-clause-ok g c =
    let k = g.C.Cells.kept c.args.cells.now in
    IfOk-weaker c.plan_move.result _ _
    (λ plan h. subst (λ (a : Act RowEntry). PlansAct (g.C.Cells.capacity_of k) (g.C.Cells.whole k) c.args.next a plan.items)
    (sym c.in-Move.is) (h c.args.next)) c.plan_move.ensures.ok
