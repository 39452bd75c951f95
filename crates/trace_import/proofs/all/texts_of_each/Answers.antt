use Rattle.std.proofs.Common.{◌<◌, ◌≤◌, [], length, arith, refl, rules}
use Rattle.import_profile.specs.Imports.{declared_by}
use Rattle.import_profile.specs.Told.{import_value}
use Rattle.trace_import.proofs.AllProfiles.{all_told, one_added, one_failed}
use Rattle.trace_import.proofs.all.texts_of_each.Goals as goal

pub loop-number-init : goal.loop-number-init
loop-number-init c = record {
  values = [];
  texts_of = record { policies = search rules; accounts = search rules };
  so_far = refl;
}

pub returns-in_err-imported : goal.returns-in_err-imported
returns-in_err-imported c =
    let value = c.args.read.now in
    let lt : c.loop-number.number < length value.profiles = omega (arith, c.profile_count-number-end.ensures, c.loop-number-test.true) in
    one_failed c.args.account c.args.options c.args.text.now value c.loop-number.number c.loop-number.texts c.from_residual.result
    c.in_err-imported.field-0.0 c.from_residual.ensures.1 c.requires lt c.loop-number.invariant
    (c.in_err-imported.ensures (declared_by c.args.options value.items) c.requires.declared c.requires.profiles)

pub loop-number-preserved : goal.loop-number-preserved
loop-number-preserved c =
    let value = c.args.read.now in
    let lt : c.loop-number.number < length value.profiles = omega (arith, c.profile_count-number-end.ensures, c.loop-number-test.true) in
    one_added c.args.account c.args.options c.args.text.now value c.loop-number.number (import_value c.in_ok-imported.imported)
    c.loop-number.texts c.add.new.self c.requires lt
    (c.in_ok-imported.ensures (declared_by c.args.options value.items) c.requires.declared c.requires.profiles)
    c.in_ok-add.ensures.policies c.in_ok-add.ensures.accounts c.loop-number.invariant

pub returns : goal.returns
returns c =
    let value = c.args.read.now in
    let none : length value.profiles ≤ c.loop-number.number =
    omega (arith, c.profile_count-number-end.ensures, c.loop-number-test.false) in
    all_told c.args.account c.args.options c.args.text.now value c.loop-number.number c.loop-number.texts c.requires none
    c.loop-number.invariant
