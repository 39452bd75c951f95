-- What `import` writes, memory and failures of the streams aside.
use Rattle.std.specs.Prelude.{◌≡◌, ◌≢◌, ◌⊎◌, ℕ, List, Option, Result, Ok, Err, option_map}
use Rattle.std.specs.Io.KnownBytes.{Appends, Keeps}
use Rattle.trace_import.specs.Accounts.{account_text}
use Rattle.trace_import.specs.RefusalLines.{refusal_text}
use Rattle.trace_import.specs.declared.account.AccountChoice.{AccountChoice}
use Rattle.import_origins.specs.Origins.{map_lines}
use Rattle.import_profile.specs.declared.options.ImportOptions.{ImportOptions}
use Rattle.import_profile.specs.Faults.{ImportFault, fault_number, fault_place, fault_word, fault_names}
use Rattle.import_profile.specs.Imports.{ImportValue, Imports, Outcome}
use Rattle.apparmor_rules.specs.declared.subject.Subject.{Subject}
use Rattle.rule_explain.specs.Places.{place_at}
use Rattle.rule_writer.specs.Canonical.{canonical}
use Rattle.trace_report.specs.Output.{Output, fault}
use Rattle.trace_report.specs.Streams.{AppendsFront, Streams, EndsInOne, IsTextOf}
use Rattle.trace_report.specs.declared.status.Status.{Status}
use Rattle.trace_report.specs.declared.status.Status.TheVariants.{Done, FaultsFailed, OutputFailed, Refused}

-- why a text is refused
abbrev pub refusal_of : List ℕ → ImportFault → List ℕ
refusal_of text f = refusal_text (fault_number f) (option_map (place_at text) (fault_place f)) (fault_word f) (fault_names f)

-- the profile's canonical text, and the account; or why there is none
abbrev pub import_output : AccountChoice → Subject → List ℕ → Outcome → Output
import_output account chosen text (Ok value) =
    record { answers = canonical value.profile; faults = account_text account chosen text value; status = Done }
import_output account chosen text (Err f) = fault (refusal_of text f) Refused

-- what `import` may write on a text: that of its outcome
abbrev pub IsImportOutput : AccountChoice → ImportOptions → List ℕ → Output → Type 0
IsImportOutput account options text output =
    (outcome : Outcome) × Imports options text outcome × (output ≡ import_output account options.subject text outcome)

-- How `import` ends over a reader that has these bytes left, where they are known.
pub record ImportEndsOver (account : AccountChoice) (options : ImportOptions) (left : Option (List ℕ)) (streams : Streams)
    (status : Status) : Type 0 where
  pub text : List ℕ
  pub is_text : IsTextOf left text
  pub ends : EndsInOne streams (IsImportOutput account options text) status

-- ---- maps

-- The map is written before anything of the profile, and whatever needs memory is computed before both.

-- nothing was imported, or memory ran out: neither a map nor a profile is written
pub record IsMapless (streams : Streams) (before after : Option (List ℕ)) (status : Status) : Type 0 where
  pub map : Keeps before after
  pub answers : Keeps streams.answers_before streams.answers_after
  pub ends : status ≢ Done

-- a map that couldn't be written whole: a front of it was written, and nothing of the profile
pub record IsMapCutShort (streams : Streams) (before after : Option (List ℕ)) (lines : List ℕ) (status : Status) : Type 0 where
  pub map : AppendsFront before after lines
  pub answers : Keeps streams.answers_before streams.answers_after
  pub ends : (status ≡ OutputFailed) ⊎ (status ≡ FaultsFailed)

-- the profile and the account were written, or a stream failed
abbrev pub IsOfStreams : Status → Type 0
IsOfStreams status = (status ≡ Done) ⊎ ((status ≡ OutputFailed) ⊎ (status ≡ FaultsFailed))

-- a map that was written whole: only now the profile is written, and then the account
pub record IsMapWhole (before after : Option (List ℕ)) (lines : List ℕ) (status : Status) : Type 0 where
  pub map : Appends before after lines
  pub ends : IsOfStreams status

-- how a map of these lines is written
abbrev pub IsMapWritten : Streams → Option (List ℕ) → Option (List ℕ) → List ℕ → Status → Type 0
IsMapWritten streams before after lines status =
    IsMapWhole before after lines status ⊎ IsMapCutShort streams before after lines status

-- What the map's stream gets, and with it the answers: neither gets anything; or the map of an import is written, and the answers
-- get something only where all of the map is on its stream.
abbrev pub GetsMap : ImportOptions → List ℕ → Streams → Option (List ℕ) → Option (List ℕ) → Status → Type 0
GetsMap options text streams before after status =
    IsMapless streams before after status
    ⊎ ((value : ImportValue) × Imports options text (Ok value)
    × IsMapWritten streams before after (map_lines text value.origins) status)

-- How `import --map` ends over such a reader: as `import`, and with a map of what it imports.
pub record ImportMapEndsOver (account : AccountChoice) (options : ImportOptions) (left : Option (List ℕ)) (streams : Streams)
    (map_before map_after : Option (List ℕ)) (status : Status) : Type 0 where
  pub text : List ℕ
  pub is_text : IsTextOf left text
  pub ends : EndsInOne streams (IsImportOutput account options text) status
  pub map : GetsMap options text streams map_before map_after status
