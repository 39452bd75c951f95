use Rattle.std.proofs.Common.{◌≡◌}
use Rattle.import_profile.specs.Imports.{Imports, Outcome, declared_by, items_outcome}
use Rattle.import_profile.proofs.ToldOutcomes.{import_read, tells_each, tells_refused}
use Rattle.import_profile.proofs.request.import_profile.Goals as goal

pub returns : goal.returns
returns c =
    let options = c.args.options in
    let text = c.args.text.now in
    let value = c.in_ok-read.read in
    let h = c.in_ok-read.ensures.faultless in
    let s = declared_by options value.items in
    tells_each {P = λ (outcome : Outcome). outcome ≡ items_outcome options s value.items} {Q = Imports options text}
    c.import_requested.result (λ outcome e. import_read options text value outcome h e)
    (c.import_requested.ensures s h.declared h.profiles)

pub returns-in_err-read : goal.returns-in_err-read
returns-in_err-read c =
    tells_refused c.args.options c.args.text.now _ _ c.from_residual.ensures.1
    c.in_err-read.ensures.fault
