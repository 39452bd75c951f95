-- What importing each profile of a text returns.
use Rattle.std.specs.Prelude.{ℕ, List, Result, Ok, Err}
use Rattle.import_profile.specs.AllImports.{ImportsAll}
use Rattle.import_profile.specs.Imports.{ImportValue}
use Rattle.import_profile.specs.Told.{import_fault_value}
use Rattle.import_profile.specs.declared.fault.ImportFailure.{ImportFailure}
use Rattle.import_profile.specs.declared.fault.ImportFailure.TheVariants as failures
use Rattle.import_profile.specs.declared.options.ImportOptions.{ImportOptions}

-- the first fault, if there is one
abbrev pub IsFirstOfAll : {T : Type 0} → ImportOptions → List ℕ → Result T ImportFailure → Type 0
IsFirstOfAll options text (Ok done) = (values : List ImportValue) × ImportsAll options text (Ok values)
IsFirstOfAll options text (Err failures.NoMemory) = Unit {0}
IsFirstOfAll options text (Err (failures.At fault)) = ImportsAll options text (Err (import_fault_value fault))
