use Rattle.std.proofs.Common.{refl}
use Rattle.import_laws.proofs.OwnImports.{own_value, own_import, untold}
use Rattle.import_laws.proofs.Imported.{profile_imported}
use Rattle.import_laws.proofs.again.imports_are_imported_as_themselves.Goals as goal

pub returns : goal.returns
returns c = λ options again text value i none asked.
    let h = profile_imported options text value i in
    (own_value value.profile h again, own_import value.profile h again none asked, refl, untold value.profile h again)
