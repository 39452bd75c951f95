-- What is written for all profiles of a text, or why it isn't.
use Rattle.std.specs.Prelude.{◌≡◌, ℕ, List, Result, Ok, Err}
use Rattle.std.specs.List.{flat_map}
use Rattle.import_profile.specs.declared.fault.ImportFailure.{ImportFailure}
use Rattle.import_profile.specs.declared.fault.ImportFailure.TheVariants as failures
use Rattle.import_profile.specs.declared.options.ImportOptions.{ImportOptions}
use Rattle.import_profile.specs.AllImports.{ImportsAll}
use Rattle.import_profile.specs.Imports.{ImportValue}
use Rattle.import_profile.specs.Told.{import_fault_value}
use Rattle.trace_import.specs.declared.account.AccountChoice.{AccountChoice}
use Rattle.trace_import.specs.declared.all.AllTexts.{AllTexts}
use Rattle.trace_import.specs.ImportAll.{headed_account, policy_text}

-- these are the texts of these imports
pub record AreTextsOf (account : AccountChoice) (options : ImportOptions) (text : List ℕ) (values : List ImportValue)
    (texts : AllTexts) : Type 0 where
  pub policies : texts.policies.items ≡ flat_map policy_text values
  pub accounts : texts.accounts.items ≡ flat_map (headed_account account options.subject text) values

abbrev pub TellsAll : AccountChoice → ImportOptions → List ℕ → Result AllTexts ImportFailure → Type 0
TellsAll account options text (Ok texts) =
    (values : List ImportValue) × ImportsAll options text (Ok values) × AreTextsOf account options text values texts
TellsAll account options text (Err failures.NoMemory) = Unit {0}
TellsAll account options text (Err (failures.At fault)) = ImportsAll options text (Err (import_fault_value fault))
