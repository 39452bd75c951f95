-- The result of reading a part of a text: a value, or the first fault.
use Rattle.std.specs.Prelude.{ℕ, ◌-◌, Bool, true, false, List, [], ◌∷◌, length, Result, Ok, Err}
use Rattle.rule_reader.specs.declared.fault.ReadFault.{ReadFault}
use Rattle.rule_reader.specs.declared.fault.ReadFault.TheVariants as faults
use Rattle.rule_reader.specs.declared.reader.local_fault.FaultKind.{FaultKind}
use Rattle.rule_reader.specs.declared.reader.local_fault.FaultKind.TheVariants as kinds
use Rattle.rule_reader.specs.declared.reader.local_fault.LocalFault.{LocalFault}

-- one part after another, up to the first fault
infixl 10 ◌>>=◌
abbrev pub ◌>>=◌ : {A B : Type 0} → Result A LocalFault → (A → Result B LocalFault) → Result B LocalFault
(Ok x) >>= f = f x
(Err s) >>= f = Err s

-- the text doesn't end here
abbrev pub goes_on : List ℕ → Bool
goes_on [] = false
goes_on (b ∷ bytes) = true

-- A fault with `left` bytes left from its place on, found by looking at `seen`. Unless the text ends there, it is settled: the text
-- stays refused, whatever bytes follow it.
abbrev pub fault_with_left : {A : Type 0} → FaultKind → ℕ → List ℕ → Result A LocalFault
fault_with_left kind left seen = Err (record { kind = kind; left = left; settled = goes_on seen })

-- a fault at the first byte of what is left, found by looking at that byte
abbrev pub fault_here : {A : Type 0} → FaultKind → List ℕ → Result A LocalFault
fault_here kind rest = fault_with_left kind (length rest) rest

abbrev pub syntax : {A : Type 0} → List ℕ → Result A LocalFault
syntax rest = fault_here kinds.Syntax rest

-- the fault of this kind, at this offset
abbrev pub fault_at : FaultKind → ℕ → ReadFault
fault_at kinds.Syntax offset = faults.Syntax offset
fault_at (kinds.LeftOut len) offset = faults.LeftOut offset len
fault_at kinds.Permission offset = faults.Permission offset
fault_at kinds.EmptyPermissions offset = faults.EmptyPermissions offset
fault_at kinds.NotAbsolute offset = faults.NotAbsolute offset
fault_at kinds.Class offset = faults.Class offset
fault_at kinds.Group offset = faults.Group offset
fault_at kinds.Depth offset = faults.Depth offset
fault_at kinds.TooManyRules offset = faults.TooManyRules offset
fault_at kinds.TooManyItems offset = faults.TooManyItems offset
fault_at kinds.Conflict offset = faults.Conflict offset

-- a local fault as a fault of a text of `n` bytes
abbrev pub fault_of : ℕ → LocalFault → ReadFault
fault_of n s = fault_at s.kind (n - s.left)
