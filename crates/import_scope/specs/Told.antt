-- A fault as the code reports it, and as the definitions have it.
use Rattle.apparmor_variables.specs.Problems.{undefined, cycle, too_long}
use Rattle.import_scope.specs.declared.fault.ScopeFault.{ScopeFault}
use Rattle.import_scope.specs.declared.fault.ScopeFaultKind.{ScopeFaultKind}
use Rattle.import_scope.specs.declared.fault.ScopeFaultKind.TheVariants as told
use Rattle.import_scope.specs.declared.fault.ScopeFailure.{ScopeFailure}
use Rattle.import_scope.specs.declared.fault.ScopeFailure.TheVariants as failures
use Rattle.import_scope.specs.Scopes.{Fault, FaultKind, declared_wrongly, no_name, in_path, too_much}

abbrev pub fault_kind_value : ScopeFaultKind → FaultKind
fault_kind_value told.Declared = declared_wrongly
fault_kind_value told.Name = no_name
fault_kind_value (told.Undefined name) = in_path (undefined name.items)
fault_kind_value (told.Cycle name) = in_path (cycle name.items)
fault_kind_value told.TooLong = in_path too_long
fault_kind_value told.TooMuch = too_much

abbrev pub fault_value : ScopeFault → Fault
fault_value fault = record { kind = fault_kind_value fault.kind; place = fault.place }

-- A fault for which this holds; where memory was refused, nothing is said.
abbrev pub TellsFault : (Fault → Type 0) → ScopeFailure → Type 0
TellsFault IsSo failures.NoMemory = Unit {0}
TellsFault IsSo (failures.At fault) = IsSo (fault_value fault)
