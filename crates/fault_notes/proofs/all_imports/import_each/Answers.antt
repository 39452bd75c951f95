use Rattle.std.proofs.Common.{◌<◌, ◌≤◌, length, arith}
use Rattle.import_profile.specs.Imports.{declared_by}
use Rattle.import_profile.specs.Told.{import_value}
use Rattle.fault_notes.proofs.EachImport.{all_done, one_failed, one_more}
use Rattle.fault_notes.proofs.all_imports.import_each.Goals as goal

pub returns-in_err-import : goal.returns-in_err-import
returns-in_err-import c =
    let value = c.args.read.now in
    let lt : c.loop-number.number < length value.profiles = omega (arith, c.profile_count-number-end.ensures, c.loop-number-test.true) in
    one_failed c.args.options c.args.text.now value c.loop-number.number c.from_residual.result c.in_err-import.field-0.0
    c.from_residual.ensures.1 c.requires lt c.loop-number.invariant
    (c.in_err-import.ensures (declared_by c.args.options value.items) c.requires.declared c.requires.profiles)

pub loop-number-preserved : goal.loop-number-preserved
loop-number-preserved c =
    let value = c.args.read.now in
    let lt : c.loop-number.number < length value.profiles = omega (arith, c.profile_count-number-end.ensures, c.loop-number-test.true) in
    one_more c.args.options c.args.text.now value c.loop-number.number (import_value c.in_ok-import.field-0) c.requires lt
    (c.in_ok-import.ensures (declared_by c.args.options value.items) c.requires.declared c.requires.profiles) c.loop-number.invariant

pub returns : goal.returns
returns c =
    let value = c.args.read.now in
    let none : length value.profiles ≤ c.loop-number.number =
    omega (arith, c.profile_count-number-end.ensures, c.loop-number-test.false) in
    all_done c.args.options c.args.text.now value c.loop-number.number c.requires none c.loop-number.invariant
