-- A map that was written, or wasn't.
use Rattle.std.specs.Prelude.{◌⊎◌, ℕ, List, Option}
use Rattle.trace_import.specs.Import.{IsMapless, IsMapWritten}
use Rattle.trace_report.specs.Streams.{Streams}
use Rattle.trace_report.specs.declared.status.Status.{Status}

-- nothing is written, or the map of these lines is
abbrev pub EndsWithMap : Streams → Option (List ℕ) → Option (List ℕ) → List ℕ → Status → Type 0
EndsWithMap streams before after lines status = IsMapless streams before after status ⊎ IsMapWritten streams before after lines status
