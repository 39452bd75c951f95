-- How a command ends whose import failed.
use Rattle.std.proofs.Common.{◌≢◌, ℕ, List, Option, Err}
use Rattle.import_profile.specs.AllImports.{ImportsAll}
use Rattle.import_profile.specs.Faults.{ImportFault}
use Rattle.import_profile.specs.declared.options.ImportOptions.{ImportOptions}
use Rattle.import_profile.specs.Told.{Fails, import_fault_value}
use Rattle.import_profile.specs.declared.fault.ImportFailure.{ImportFailure}
use Rattle.import_profile.specs.declared.fault.ImportFailure.TheVariants as failures
use Rattle.trace_import.specs.Import.{refusal_of}
use Rattle.trace_import.specs.inner.Failures.{IsFailureTold}
use Rattle.trace_import.specs.declared.account.AccountChoice.{AccountChoice}
use Rattle.trace_import.specs.inner.AllTexts.{TellsAll}
use Rattle.trace_import.proofs.Endings.{out_of_memory_not_done, refused_not_done, refused_so}
use Rattle.trace_report.specs.Fault.{AreGood}
use Rattle.trace_report.specs.ReadStreams.{ask_of}
use Rattle.trace_report.specs.Output.{Output, fault}
use Rattle.trace_report.specs.Streams.{EndsInOne}
use Rattle.trace_report.specs.declared.fault.Fault.TheVariants.{Memory}
use Rattle.trace_report.specs.declared.status.Status.{Status}
use Rattle.trace_report.specs.declared.status.Status.TheVariants.{Done, Refused}
use Rattle.trace_report.specs.laws.Endings.{one_told, told_alone}

pub failed_so : (Wanted : Output → Type 0) (IsFault : ImportFault → Type 0) (text : List ℕ) (answers before after : Option (List ℕ))
    (failure : ImportFailure) (status : Status) → AreGood Wanted
    → ((f : ImportFault) → IsFault f → Wanted (fault (refusal_of text f) Refused)) → Fails IsFault failure
    → IsFailureTold before after text failure status → EndsInOne (told_alone answers before after) Wanted status
failed_so Wanted IsFault text answers before after failures.NoMemory status good so h told =
    one_told answers before after Wanted Memory status good told
failed_so Wanted IsFault text answers before after (failures.At f) status good so h told =
    refused_so Wanted (refusal_of text (import_fault_value f)) answers before after status good (so (import_fault_value f) h) told

pub failure_not_done : (text : List ℕ) (before after : Option (List ℕ)) (failure : ImportFailure) (status : Status)
    → IsFailureTold before after text failure status → status ≢ Done
failure_not_done text before after failures.NoMemory status told = out_of_memory_not_done before after status told
failure_not_done text before after (failures.At f) status told =
    refused_not_done before after (refusal_of text (import_fault_value f)) status told

-- the fault of all profiles
pub tells_fault : (account : AccountChoice) (options : ImportOptions) (text : List ℕ) (failure : ImportFailure)
    → TellsAll account options text (Err failure) → Fails (λ f. ImportsAll options text (Err f)) failure
tells_fault account options text failures.NoMemory h = tt
tells_fault account options text (failures.At f) h = h
