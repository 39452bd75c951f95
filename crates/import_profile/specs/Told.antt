-- The code's faults and imports as those of the definitions.
use Rattle.std.specs.Prelude.{map, Result, Ok, Err}
use Rattle.rule_profile.specs.Profile.{profile_value}
use Rattle.rule_profile.specs.RuleSpans.{profile_spans}
use Rattle.import_profile.specs.declared.fault.ImportFault as told
use Rattle.import_profile.specs.declared.fault.ImportFault.TheVariants.{Syntax, Include, LeftOut, Permissions, Undefined, Cycle, Declared}
use Rattle.import_profile.specs.declared.fault.ImportFault.TheVariants.{Name, TooManyRules, TooLong, Which, NotExact, TooMuch}
use Rattle.import_profile.specs.declared.fault.ImportFailure.{ImportFailure}
use Rattle.import_profile.specs.declared.fault.ImportFailure.TheVariants as failures
use Rattle.import_profile.specs.declared.import.Imported.{Imported}
use Rattle.import_profile.specs.Faults.{ImportFault, syntax, include, left_out, permissions, undefined_variable, cyclic_variable, declared}
use Rattle.import_profile.specs.Faults.{bad_name, too_many_rules, too_long_path, which, not_exact, too_much}
use Rattle.import_profile.specs.Imports.{ImportValue, Outcome}

abbrev pub import_fault_value : told.ImportFault → ImportFault
import_fault_value (Syntax place) = syntax place
import_fault_value (Include place) = include place
import_fault_value (LeftOut place word) = left_out place word.now
import_fault_value (Permissions place) = permissions place
import_fault_value (Undefined place name) = undefined_variable place name.items
import_fault_value (Cycle place name) = cyclic_variable place name.items
import_fault_value (Declared place) = declared place
import_fault_value (Name place) = bad_name place
import_fault_value (TooManyRules place) = too_many_rules place
import_fault_value (TooLong place) = too_long_path place
import_fault_value (Which names) = which (map (λ name. name.items) names.items)
import_fault_value (NotExact place) = not_exact place
import_fault_value (TooMuch place) = too_much place

abbrev pub import_value : Imported → ImportValue
import_value imported = record {
  profile = profile_value imported.profile;
  origins = profile_spans imported.profile;
  spans = imported.spans.items;
}

-- the predicate holds of what a function failed with, unless memory ran out
abbrev pub Fails : (ImportFault → Type 0) → ImportFailure → Type 0
Fails IsSo failures.NoMemory = Unit {0}
Fails IsSo (failures.At fault) = IsSo (import_fault_value fault)

-- the predicate holds of what a function returned, unless memory ran out
abbrev pub Tells : (Outcome → Type 0) → Result Imported ImportFailure → Type 0
Tells IsSo (Ok imported) = IsSo (Ok (import_value imported))
Tells IsSo (Err failure) = Fails (λ fault. IsSo (Err fault)) failure
