-- Why a requested word wasn't returned.
use Rattle.std.specs.Prelude.{◌≡◌, ℕ, List, Option, Some, None}
use Rattle.path_lookup.specs.declared.fault.WalkFault.{WalkFault}
use Rattle.path_lookup.specs.declared.fault.WalkFault.TheVariants as fault
use Rattle.tree_row.specs.declared.stop.Stop.{Stop}
use Rattle.tree_row.specs.declared.stop.Stop.TheVariants as stop
use Rattle.tree_row.specs.declared.reader.Lack.{Lack}
use Rattle.tree_row.specs.declared.reader.Lack.TheVariants as lack
use Rattle.tree_row.specs.ReadWords.{IsNext}

abbrev pub IsHonestLack : ℕ → List (ℕ × ℕ) → List (ℕ × ℕ) → ℕ → Option Lack → Type 0
IsHonestLack capacity known read most lacks = (place : ℕ) → lacks ≡ Some (lack.Wants place) → IsNext capacity known read most place

abbrev pub stop_by : WalkFault → Option Lack → Stop
stop_by (fault.Refused errno) lacks = stop.Refused errno
stop_by fault.Torn (Some (lack.Wants place)) = stop.Wants place
stop_by fault.Torn (Some lack.NoMemory) = stop.NoMemory
stop_by fault.Torn None = stop.Torn
