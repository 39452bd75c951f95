use Rattle.std.proofs.Common.{◌<◌, length, refl, subst, arith}
use Rattle.directory_tree.specs.Apply.{most_changes}
use Rattle.directory_tree.specs.Plain.{Plain, tree_of}
use Rattle.change_checks.specs.Act.{IsTested}
use Rattle.plain_tree.specs.PlainEntry.{means_in}
use Rattle.plain_tree.specs.laws.Acts.{world_of, never_torn, told, counted_ok, counted_err}
use Rattle.plain_tree.proofs.plain.PlainTree.tested.Goals as goal

pub unreachable-requires : goal.unreachable-requires
unreachable-requires c = never_torn c.check_change.new.look _ c.in-Err-Torn.field-0 c.in-Err-Torn.field-0-is c.in-Err-Torn.ensures.fault

pub returns-in-Ok-clause-acts : goal.returns-in-Ok-clause-acts
returns-in-Ok-clause-acts c =
    let few : length c.args.self.now.history < most_changes = subst (λ (x : Plain). length x.history < most_changes) c.self.view_is
    (omega (arith, c.self.invariant.version, c.if-self-ge-MOST_CHANGES.false)) in
    counted_ok c.check_change.new.look c.args.self.now c.args.change.now c.in-Ok.act c.in-Ok.ensures.kept few
    (c.in-Ok.ensures.acts (world_of c.check_change.new.look) refl)

pub returns-in-Ok-clause-tested : goal.returns-in-Ok-clause-tested
returns-in-Ok-clause-tested c =
    subst (λ (x : Plain). IsTested (means_in (tree_of x)) (tree_of x) x.capacity c.in-Ok.act) c.in-Ok.ensures.kept
    (c.in-Ok.ensures.tested (world_of c.check_change.new.look) refl)

pub returns-in-Err-Refused-clause-err : goal.returns-in-Err-Refused-clause-err
returns-in-Err-Refused-clause-err c =
    let few : length c.args.self.now.history < most_changes = subst (λ (x : Plain). length x.history < most_changes) c.self.view_is
    (omega (arith, c.self.invariant.version, c.if-self-ge-MOST_CHANGES.false)) in
    counted_err c.check_change.new.look c.args.self.now c.args.change.now c.in-Err-Refused.errno c.in-Err-Refused.ensures.kept few
    (told c.check_change.new.look _ c.in-Err-Refused.field-0 c.in-Err-Refused.errno c.in-Err-Refused.field-0-is
    c.in-Err-Refused.ensures.fault)
