-- The word that a walk over partly known words needs next.
use Rattle.std.specs.Prelude.{◌≡◌, ℕ, List, Option, Some, None}
use Rattle.path_lookup.specs.declared.fault.WalkFault.{WalkFault}
use Rattle.path_lookup.specs.declared.fault.WalkFault.TheVariants as fault
use Rattle.tree_row.specs.declared.stop.Stop.{Stop}
use Rattle.tree_row.specs.declared.stop.Stop.TheVariants as stop
use Rattle.tree_row.specs.Known.{IsUnknown}

-- the requested word isn't known
abbrev pub IsHonest : ℕ → List (ℕ × ℕ) → Option ℕ → Type 0
IsHonest capacity known wanted = (place : ℕ) → wanted ≡ Some place → IsUnknown capacity known place

-- why a walk with this fault stops; `wanted`: the last requested word that isn't known
abbrev pub stop_from : WalkFault → Option ℕ → Stop
stop_from (fault.Refused errno) wanted = stop.Refused errno
stop_from fault.Torn (Some place) = stop.Wants place
stop_from fault.Torn None = stop.Torn
