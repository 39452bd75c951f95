-- Why a walk, or a name, has no answer.
use Rattle.std.specs.Prelude.{◌≡◌, Result, Err}
use Rattle.names.specs.declared.errors.Errno.{Errno}
use Rattle.path_lookup.specs.declared.fault.WalkFault.{WalkFault}
use Rattle.path_lookup.specs.declared.fault.WalkFault.TheVariants.{Refused, Torn}
use Rattle.path_lookup.specs.World.{World, IsTorn}

-- an errno is the answer in every world that is still seen
abbrev pub IsFault : {X : Type 0} → Type 0 → (World → Type 0) → (World → Result X Errno) → WalkFault → Type 0
IsFault lacks sees answer (Refused errno) = (w : World) → sees w → answer w ≡ Err errno
IsFault lacks sees answer Torn = IsTorn lacks sees
