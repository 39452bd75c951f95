-- The result of a function of the reader, compared with what reading gives.
use Rattle.std.specs.Prelude.{◌≡◌, Result, Ok, Err}
use Rattle.rule_reader.specs.declared.reader.local_fault.LocalFault.{LocalFault}
use Rattle.rule_reader.specs.declared.reader.local_fault.Failure.{Failure}
use Rattle.rule_reader.specs.declared.reader.local_fault.Failure.TheVariants as failures

-- What a function failed with is what reading stops with, unless memory ran out.
abbrev pub Fails : {Y : Type 0} → Failure → Result Y LocalFault → Type 0
Fails failures.NoMemory read = Unit {0}
Fails (failures.At s) read = read ≡ Err s

-- What a function returned, as `view` maps it, is what reading gives, unless memory ran out.
abbrev pub Gives : {X Y : Type 0} → (X → Y) → Result X Failure → Result Y LocalFault → Type 0
Gives view (Ok x) read = read ≡ Ok (view x)
Gives view (Err e) read = Fails e read
