-- The result of a function of the reader, compared with what reading gives.
use Rattle.std.specs.Prelude.{◌≡◌, Result, Ok, Err}
use Rattle.apparmor_words.specs.declared.stop.Stop as told
use Rattle.apparmor_words.specs.declared.stop.Failure.{Failure}
use Rattle.apparmor_words.specs.declared.stop.Failure.TheVariants as failures
use Rattle.apparmor_words.specs.Stops.{stop_value}
use Rattle.apparmor_words.specs.Steps.{Stop}

-- What a function that allocates no memory returned, mapped by `view`, is what reading gives.
abbrev pub Reads : {X Y : Type 0} → (X → Y) → Result X told.Stop → Result Y Stop → Type 0
Reads view (Ok x) read = read ≡ Ok (view x)
Reads view (Err s) read = read ≡ Err (stop_value s)

-- What a function failed with is what reading stops with, unless an allocation failed.
abbrev pub Fails : {Y : Type 0} → Failure → Result Y Stop → Type 0
Fails failures.NoMemory read = Unit {0}
Fails (failures.At s) read = read ≡ Err (stop_value s)

-- What a function returned, mapped by `view`, is what reading gives, unless an allocation failed.
abbrev pub Gives : {X Y : Type 0} → (X → Y) → Result X Failure → Result Y Stop → Type 0
Gives view (Ok x) read = read ≡ Ok (view x)
Gives view (Err e) read = Fails e read
