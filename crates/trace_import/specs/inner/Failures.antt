-- What is reported of an import that failed.
use Rattle.std.specs.Prelude.{◌⊎◌, ℕ, List, Option}
use Rattle.import_profile.specs.Told.{import_fault_value}
use Rattle.import_profile.specs.declared.fault.ImportFailure.{ImportFailure}
use Rattle.import_profile.specs.declared.fault.ImportFailure.TheVariants as failures
use Rattle.names.specs.Errors.{no_memory_text}
use Rattle.trace_import.specs.Import.{refusal_of}
use Rattle.trace_report.specs.Streams.{IsTold}
use Rattle.trace_report.specs.declared.status.Status.{Status}
use Rattle.trace_report.specs.declared.status.Status.TheVariants.{NoMemory, Refused}

-- why the text is refused, or that memory ran out
abbrev pub IsFailureTold : Option (List ℕ) → Option (List ℕ) → List ℕ → ImportFailure → Status → Type 0
IsFailureTold before after text failures.NoMemory status = IsTold before after no_memory_text NoMemory status
IsFailureTold before after text (failures.At fault) status =
    IsTold before after (refusal_of text (import_fault_value fault)) Refused status ⊎ IsTold before after no_memory_text NoMemory status
