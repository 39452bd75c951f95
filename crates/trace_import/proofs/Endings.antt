-- How a command ends that refused its text, or of which nothing could be reported.
use Rattle.std.proofs.Common.{◌≡◌, ◌≢◌, ◌⊎◌, ℕ, List, Option, Result, Ok, Err, refl, sym, ap, subst, inl, inr, ◌∙◌}
use Rattle.names.specs.Errors.{no_memory_text}
use Rattle.names.specs.declared.permissions.Perms.{Perms}
use Rattle.apparmor_rules.specs.declared.subject.Subject.{Subject}
use Rattle.import_profile.specs.declared.options.ImportOptions.{ImportOptions}
use Rattle.import_profile.specs.AllImports.{AllOutcome}
use Rattle.import_origins.specs.Origins.{map_lines}
use Rattle.import_profile.specs.Imports.{ImportValue, Imports, Outcome}
use Rattle.trace_report.specs.ReadStreams.{ask_of}
use Rattle.trace_report.specs.Output.{Output, fault, whole_answer}
use Rattle.trace_report.specs.Streams.{Ends, EndsInOne, IsTold, Streams}
use Rattle.trace_report.specs.declared.fault.Fault.{Fault}
use Rattle.trace_report.specs.declared.fault.Fault.TheVariants.{Input, Memory, Name, Permissions}
use Rattle.trace_report.specs.declared.format.Format.{Format}
use Rattle.trace_report.specs.declared.status.Status.{Status}
use Rattle.trace_report.specs.declared.status.Status.TheVariants.{BadArguments, Done, NoMemory, Refused, Unmet}
use Rattle.trace_report.specs.declared.status.Status.TheVariants.{FaultsFailed, InputFailed, OutputFailed}
use Rattle.trace_report.specs.Fault.{AreGood, IsFaultOfOne, fault_text, fault_status}
use Rattle.trace_report.specs.laws.Endings.{keeps, one_told, told_alone, written}
use Rattle.trace_import.specs.declared.account.AccountChoice.{AccountChoice}
use Rattle.trace_import.specs.Import.{GetsMap, IsImportOutput, IsMapless, import_output}
use Rattle.trace_import.specs.inner.WrittenMaps.{EndsWithMap}
use Rattle.trace_import.specs.ImportAll.{IsAllOutput, all_output}
use Rattle.trace_import.specs.ExplainFlattened.{IsAskedOutput, IsExplainOutput, explained_import}

-- ---- none of them reports bad arguments

no_arguments : (account : AccountChoice) (chosen : Subject) (text : List ℕ) (outcome : Outcome) (output : Output) →
    output ≡ import_output account chosen text outcome → output.status ≢ BadArguments
no_arguments account chosen text (Ok value) output e = rw e (λ bad. cc)
no_arguments account chosen text (Err f) output e = rw e (λ bad. cc)

pub good : (account : AccountChoice) (options : ImportOptions) (text : List ℕ) → AreGood (IsImportOutput account options text)
good account options text output is = no_arguments account options.subject text is.0 output is.2

no_arguments_of_all : (account : AccountChoice) (chosen : Subject) (text : List ℕ) (outcome : AllOutcome) (output : Output) →
    output ≡ all_output account chosen text outcome → output.status ≢ BadArguments
no_arguments_of_all account chosen text (Ok values) output e = rw e (λ bad. cc)
no_arguments_of_all account chosen text (Err f) output e = rw e (λ bad. cc)

pub all_good : (account : AccountChoice) (options : ImportOptions) (text : List ℕ) → AreGood (IsAllOutput account options text)
all_good account options text output is = no_arguments_of_all account options.subject text is.0 output is.2

no_arguments_explained : (format : Format) (ask : Perms) (name text : List ℕ) (outcome : Outcome) (output : Output) →
    output ≡ explained_import format ask name text outcome → output.status ≢ BadArguments
no_arguments_explained format ask name text (Ok value) output e = rw e (λ bad. cc)
no_arguments_explained format ask name text (Err f) output e = rw e (λ bad. cc)

pub explained_good : (format : Format) (options : ImportOptions) (ask : Perms) (name text : List ℕ) →
    AreGood (IsAskedOutput format options (Ok ask) name text)
explained_good format options ask name text output is = no_arguments_explained format ask name text is.0 output is.2

-- ---- how they end

-- a refusal was reported, or out of memory
pub refused_so : (Wanted : Output → Type 0) (told : List ℕ) (answers before after : Option (List ℕ)) (status : Status) → AreGood Wanted
    → Wanted (fault told Refused) → IsTold before after told Refused status ⊎ IsTold before after no_memory_text NoMemory status
    → EndsInOne (told_alone answers before after) Wanted status
refused_so Wanted told answers before after status good is (inl (inl e)) = rw e (inl (keeps answers))
refused_so Wanted told answers before after status good is (inl (inr h)) =
    rw h.0 (fault told Refused, is, written answers before after _ told Refused refl h.1)
refused_so Wanted told answers before after status good is (inr none) = one_told answers before after Wanted Memory status good none

-- reading failed, for the input or for memory
pub unread : (Wanted : Output → Type 0) (f : Fault) (answers before after : Option (List ℕ)) (status : Status) → AreGood Wanted
    → f ≡ Input ⊎ f ≡ Memory → IsTold before after (fault_text f) (fault_status f) status
    → EndsInOne (told_alone answers before after) Wanted status
unread Wanted f answers before after status good (inl e) h = one_told answers before after Wanted f status (rw e good) h
unread Wanted f answers before after status good (inr e) h = one_told answers before after Wanted f status (rw e good) h

-- an answer was written, or it wasn't
ends_in_one : (streams : Streams) (output : Output) (status : Status) → Ends streams output status
    → EndsInOne streams (λ (o : Output). o ≡ output) status
ends_in_one streams output Done h = (output, refl, h)
ends_in_one streams output Unmet h = h
ends_in_one streams output BadArguments h = (output, refl, h)
ends_in_one streams output Refused h = (output, refl, h)
ends_in_one streams output InputFailed h = record {
  answers = h.answers;
  faults = h.faults;
  arguments = λ o e. subst (λ (x : Output). x.status ≢ BadArguments) (sym e) h.arguments;
}
ends_in_one streams output NoMemory h = record {
  answers = h.answers;
  faults = h.faults;
  arguments = λ o e. subst (λ (x : Output). x.status ≢ BadArguments) (sym e) h.arguments;
}
ends_in_one streams output OutputFailed h = (output, refl, h)
ends_in_one streams output FaultsFailed h = inr (output, refl, h)

pub answered_so : (streams : Streams) (bytes wanted : List ℕ) (status : Status) → bytes ≡ wanted → Ends streams (whole_answer bytes) status
    → EndsInOne streams (λ (o : Output). o ≡ whole_answer wanted) status
answered_so streams bytes wanted status e h =
    ends_in_one streams (whole_answer wanted) status (subst (λ (l : List ℕ). Ends streams (whole_answer l) status) e h)

-- ---- arguments of explain

-- bad arguments are what is reported
pub asked_wrongly : (format : Format) (options : ImportOptions) (perms name text : List ℕ) (f : Fault)
    → ask_of perms name ≡ Err (fault_text f) → f ≡ Permissions ⊎ f ≡ Name
    → IsFaultOfOne (IsExplainOutput format options perms name text) f
asked_wrongly format options perms name text f e (inl p) =
    let same : ask_of perms name ≡ Err (fault_text Permissions) = e ∙ ap (λ (x : Fault). Err (fault_text x)) p in
    rw p (subst
    (λ (asked : Result Perms (List ℕ)). IsAskedOutput format options asked name text (fault (fault_text Permissions) BadArguments))
    (sym same) refl)
asked_wrongly format options perms name text f e (inr p) =
    let same : ask_of perms name ≡ Err (fault_text Name) = e ∙ ap (λ (x : Fault). Err (fault_text x)) p in
    rw p (subst (λ (asked : Result Perms (List ℕ)). IsAskedOutput format options asked name text (fault (fault_text Name) BadArguments))
    (sym same) refl)

-- with these permissions it ends as it is asked
pub asked_rightly : (streams : Streams) (format : Format) (options : ImportOptions) (perms name text : List ℕ) (ask : Perms)
    (status : Status) → ask_of perms name ≡ Ok ask → EndsInOne streams (IsAskedOutput format options (Ok ask) name text) status
    → EndsInOne streams (IsExplainOutput format options perms name text) status
asked_rightly streams format options perms name text ask status e h =
    subst (λ (asked : Result Perms (List ℕ)). EndsInOne streams (IsAskedOutput format options asked name text) status) (sym e) h

-- ---- maps

not_done : (before after : Option (List ℕ)) (told : List ℕ) (wanted status : Status) → wanted ≢ Done →
    IsTold before after told wanted status → status ≢ Done
not_done before after told wanted status bad (inl e) = rw e (λ done. cc)
not_done before after told wanted status bad (inr h) = λ done. bad (sym h.0 ∙ done)

pub out_of_memory_not_done : (before after : Option (List ℕ)) (status : Status) → IsTold before after no_memory_text NoMemory status →
    status ≢ Done
out_of_memory_not_done before after status h = not_done before after no_memory_text NoMemory status (λ bad. cc) h

pub refused_not_done : (before after : Option (List ℕ)) (told : List ℕ) (status : Status)
    → IsTold before after told Refused status ⊎ IsTold before after no_memory_text NoMemory status → status ≢ Done
refused_not_done before after told status (inl h) = not_done before after told Refused status (λ bad. cc) h
refused_not_done before after told status (inr h) = out_of_memory_not_done before after status h

pub failed_not_done : (before after : Option (List ℕ)) (f : Fault) (status : Status) → f ≡ Input ⊎ f ≡ Memory →
    IsTold before after (fault_text f) (fault_status f) status → status ≢ Done
failed_not_done before after f status (inl e) h = not_done before after (fault_text f) (fault_status f) status (rw e (λ bad. cc)) h
failed_not_done before after f status (inr e) h = not_done before after (fault_text f) (fault_status f) status (rw e (λ bad. cc)) h

-- where nothing but a message was written, neither a map nor a profile was
pub mapless : (answers before after written : Option (List ℕ)) (status : Status) → status ≢ Done →
    IsMapless (told_alone answers before after) written written status
mapless answers before after written status bad = record { map = keeps written; answers = keeps answers; ends = bad }

-- a map of what was imported is the map of an import
pub gets_map : (options : ImportOptions) (text : List ℕ) (value : ImportValue) (streams : Streams) (before after : Option (List ℕ))
    (status : Status) → Imports options text (Ok value) → EndsWithMap streams before after (map_lines text value.origins) status →
    GetsMap options text streams before after status
gets_map options text value streams before after status is (inl none) = inl none
gets_map options text value streams before after status is (inr some) = inr (value, is, some)
