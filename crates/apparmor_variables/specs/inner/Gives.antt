-- The result of a function of the crate, compared with what a definition gives.
use Rattle.std.specs.Prelude.{◌≡◌, Option, Some, None, Result, Ok, Err}
use Rattle.apparmor_variables.specs.declared.fault.ExpandFault.{ExpandFault}
use Rattle.apparmor_variables.specs.declared.fault.ExpandFault.TheVariants as faults
use Rattle.apparmor_variables.specs.declared.refusal.Refusal.{Refusal}
use Rattle.apparmor_variables.specs.declared.refusal.Refusal.TheVariants.{Nothing, NoMemory}

-- where it fails, nothing is given, unless memory ran out
abbrev pub Refuses : {Y : Type 0} → Refusal → Option Y → Type 0
Refuses Nothing given = given ≡ None
Refuses NoMemory given = Unit {0}

-- what it returned is what is given
abbrev pub Gives : {X : Type 0} → Result X Refusal → Option X → Type 0
Gives (Ok x) given = given ≡ Some x
Gives (Err refusal) given = Refuses refusal given

-- where there is no text, one would be too long
abbrev pub fault_of : Refusal → ExpandFault
fault_of Nothing = faults.TooLong
fault_of NoMemory = faults.NoMemory
