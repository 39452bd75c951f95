use Rattle.std.proofs.Common.{ℕ, sym, ap, subst, refl}
use Rattle.std.specs.Prelude.{is_ok}
use mathlib.Core.Logic.{inl, inr}
use Rattle.names.specs.declared.errors.Errno.TheVariants.{ENOMEM}
use Rattle.directory_tree.specs.Apply.{has_room}
use Rattle.change_checks.specs.Act.{acted}
use Rattle.tree_row.specs.Worlds.{EncodesWorld}
use Rattle.tree_row.specs.declared.look.RowEntry.{RowEntry}
use Rattle.row_rule.specs.Row.{write}
use Rattle.row_plan.specs.Leaves.{Leaves}
use Rattle.row_plan.specs.Plan.{Plans, Refuses, outcome_in}
use Rattle.row_plan.proofs.Outcomes.{seen, not_torn, refused, names_slots, filled_slots}
use Rattle.row_plan.proofs.NodeNumbers.{numbered}
use Rattle.row_plan.proofs.planner.plan.Goals as goal

pub errno_of-requires : goal.errno_of-requires
errno_of-requires g c =
    let cells = c.check_change.new.look.cells in
    let k = g.C.Cells.kept cells in
    let kept = sym c.check_change.ensures.kept in
    let (row, w, whole, enc, is) = c.requires in
    not_torn (g.C.Cells.capacity_of k) (g.C.Cells.may cells) (g.C.Cells.whole k) (g.C.Cells.unknown cells) (g.met.C.Cells.whole_may cells)
    (λ v. outcome_in (g.C.Cells.capacity_of k) v c.args.change.now) c.in-Err.fault
    row w (subst (λ z. g.C.Cells.whole z row) kept whole) (subst (λ z. EncodesWorld (g.C.Cells.capacity_of z) row w) kept enc)
    c.in-Err.ensures.fault

pub returns-in-Err-clause-err : goal.returns-in-Err-clause-err
returns-in-Err-clause-err g c row w whole enc =
    let cells = c.check_change.new.look.cells in
    let k = g.C.Cells.kept cells in
    let kept = sym c.check_change.ensures.kept in
    let told = refused (g.C.Cells.capacity_of k) (g.C.Cells.may cells) (g.C.Cells.whole k) (g.C.Cells.unknown cells)
    (g.met.C.Cells.whole_may cells) (λ v. outcome_in (g.C.Cells.capacity_of k) v c.args.change.now) c.in-Err.fault c.errno_of.result
    c.errno_of.ensures c.in-Err.ensures.fault
    row w (subst (λ z. g.C.Cells.whole z row) kept whole) (subst (λ z. EncodesWorld (g.C.Cells.capacity_of z) row w) kept enc) in
    subst (λ z. Refuses (g.C.Cells.capacity_of z) w c.args.change.now c.errno_of.result) c.check_change.ensures.kept (inr told)

pub plan_act-requires-clause-known : goal.plan_act-requires-clause-known
plan_act-requires-clause-known g c =
    let kept = sym c.check_change.ensures.kept in
    let (row, w, whole, enc, is) = c.requires in
    (row, w, subst (λ z. g.C.Cells.whole z row) kept whole, subst (λ z. EncodesWorld (g.C.Cells.capacity_of z) row w) kept enc)

pub plan_act-requires-clause-slots : goal.plan_act-requires-clause-slots
plan_act-requires-clause-slots g c =
    let cells = c.check_change.new.look.cells in
    let k = g.C.Cells.kept cells in
    names_slots (g.C.Cells.capacity_of k) (g.C.Cells.may cells) (g.C.Cells.whole k) (g.C.Cells.unknown cells)
    (g.met.C.Cells.whole_may cells) c.in-Ok.act c.in-Ok.ensures.known

pub plan_act-requires-clause-tested : goal.plan_act-requires-clause-tested
plan_act-requires-clause-tested g c row w whole enc =
    let cells = c.check_change.new.look.cells in
    let k = g.C.Cells.kept cells in
    c.in-Ok.ensures.tested w (seen (g.C.Cells.capacity_of k) (g.C.Cells.may cells) (g.C.Cells.whole k) (g.C.Cells.unknown cells)
    (g.met.C.Cells.whole_may cells) row w whole enc)

pub returns-in-Ok-plan_act-clause-ok : goal.returns-in-Ok-plan_act-clause-ok
returns-in-Ok-plan_act-clause-ok g c row w whole enc is =
    let cells = c.check_change.new.look.cells in
    let k = g.C.Cells.kept cells in
    let kept = sym c.check_change.ensures.kept in
    let whole' = subst (λ z. g.C.Cells.whole z row) kept whole in
    let enc' = subst (λ z. EncodesWorld (g.C.Cells.capacity_of z) row w) kept enc in
    let after = acted (λ (e : RowEntry). w.named e.slot) w.tree c.in-Ok.act in
    let acts = c.in-Ok.ensures.acts w (seen (g.C.Cells.capacity_of k) (g.C.Cells.may cells) (g.C.Cells.whole k) (g.C.Cells.unknown cells)
    (g.met.C.Cells.whole_may cells) row w whole' enc') in
    let tested = c.in-Ok.ensures.tested w (seen (g.C.Cells.capacity_of k) (g.C.Cells.may cells) (g.C.Cells.whole k)
    (g.C.Cells.unknown cells) (g.met.C.Cells.whole_may cells) row w whole' enc') in
    let holds = filled_slots (g.C.Cells.capacity_of k) (g.C.Cells.may cells) (g.C.Cells.whole k) (g.C.Cells.unknown cells)
    (g.met.C.Cells.whole_may cells) row w whole' enc' c.in-Ok.act c.in-Ok.ensures.known in
    let done = c.in-Ok-plan_act.ensures.ok row w whole' enc' is in
    let plans : Plans (g.C.Cells.capacity_of k) row w c.args.change.now c.in-Ok-plan_act.plan.items = record {
      after = after;
      made = acts;
      next = numbered w.tree after (has_room (g.C.Cells.capacity_of k) w.tree) c.args.change.now acts;
      encodes = done.1;
      lean = done.0;
      act = c.in-Ok.act;
      comes = record { does = acts; tested = tested; holds = holds };
      leaves = subst (λ (n : ℕ). Leaves (g.C.Cells.capacity_of k) row n c.in-Ok.act (write row c.in-Ok-plan_act.plan.items))
          (sym is) done.2;
    } in
    subst (λ z. Plans (g.C.Cells.capacity_of z) row w c.args.change.now c.in-Ok-plan_act.plan.items) c.check_change.ensures.kept plans

pub returns-in-Err-plan_act-clause-err : goal.returns-in-Err-plan_act-clause-err
returns-in-Err-plan_act-clause-err g c row w whole enc =
    let cells = c.check_change.new.look.cells in
    let k = g.C.Cells.kept cells in
    let kept = sym c.check_change.ensures.kept in
    let whole' = subst (λ z. g.C.Cells.whole z row) kept whole in
    let enc' = subst (λ z. EncodesWorld (g.C.Cells.capacity_of z) row w) kept enc in
    let acts = c.in-Ok.ensures.acts w (seen (g.C.Cells.capacity_of k) (g.C.Cells.may cells) (g.C.Cells.whole k) (g.C.Cells.unknown cells)
    (g.met.C.Cells.whole_may cells) row w whole' enc') in
    subst (λ z. Refuses (g.C.Cells.capacity_of z) w c.args.change.now ENOMEM) c.check_change.ensures.kept (inl (refl, ap is_ok acts))
