-- What commands read.
use Rattle.std.specs.Prelude.{
  ◌≡◌,
  ◌⊎◌,
  ◌==◌,
  ℕ,
  Bool,
  false,
  List,
  [],
  ◌∷◌,
  Option,
  Some,
  None,
  Result,
  Ok,
  Err,
  Vec,
  IfSome,
  codes,
  if◌then◌else◌,
}
use Rattle.std.specs.declared.alloc.Global.{Global}
use Rattle.names.specs.declared.permissions.Perms.{Perms}
use Rattle.names.specs.Ascii as ascii
use Rattle.names.specs.Permissions.{perms_of}
use Rattle.trace_report.specs.Fault.{fault_text}
use Rattle.trace_report.specs.declared.fault.Fault.{Fault}
use Rattle.trace_report.specs.declared.fault.Fault.TheVariants.{Input, Memory, Permissions, Name}

-- the permissions asked for: one letter or more
abbrev pub asked_by : List ℕ → Option Perms
asked_by [] = None
asked_by (b ∷ letters) = perms_of (b ∷ letters)

-- the name begins with a slash
abbrev pub is_absolute : List ℕ → Bool
is_absolute [] = false
is_absolute (b ∷ name) = b == ascii.slash

-- the permissions asked for a name, or the message about the arguments
abbrev pub ask_of : List ℕ → List ℕ → Result Perms (List ℕ)
ask_of perms name = elim (asked_by perms) [
  | None ↦ Err (codes "bad permissions")
  | Some ask ↦ if is_absolute name then Ok ask else Err (codes "bad name")
]

-- these permissions, or the fault that has this message
abbrev pub IsAsked : Result Perms (List ℕ) → Result Perms Fault → Type 0
IsAsked wanted (Ok ask) = wanted ≡ Ok ask
IsAsked wanted (Err f) = (wanted ≡ Err (fault_text f)) × (f ≡ Permissions ⊎ f ≡ Name)

-- all that was left where it's known, or a failure of the stream or of memory
abbrev pub IsTextRead : Option (List ℕ) → Result (Vec ℕ Global) Fault → Type 0
IsTextRead left (Ok text) = IfSome left (λ known. text.items ≡ known)
IsTextRead left (Err f) = f ≡ Input ⊎ f ≡ Memory
