-- What `--verbose` adds: after a command that had something refused, notes on standard error. `explain --flattened` has them always.
use Rattle.std.specs.Prelude.{◌≡◌, ◌⊎◌, ℕ, Bool, true, false, List, [], Option, Some, is_ok, ◌&&◌, ◌||◌}
use Rattle.std.specs.Io.KnownBytes.{Keeps, Appends}
use Rattle.names.specs.Errors.{no_memory_text}
use Rattle.fault_notes.specs.ImageNotes.{IsImageNotes}
use Rattle.fault_notes.specs.AllImportNotes.{AreAllImportNotes}
use Rattle.fault_notes.specs.ImportNotes.{IsImportNotes}
use Rattle.fault_notes.specs.ProfileNotes.{profile_notes}
use Rattle.import_profile.specs.declared.options.ImportOptions.{ImportOptions}
use Rattle.script_notes.specs.ScriptNotes.{script_notes}
use Rattle.script_notes.specs.declared.line.Script.TheVariants.{Run, Steps, Test}
use Rattle.trace_arguments.specs.Values.{ChoiceValue, CommandValue, ImportValue, LineValue, check, compile, explain_flattened, import_text}
use Rattle.trace_arguments.specs.Values.{judge, match_name, run, steps, test}
use Rattle.trace_report.specs.ReadStreams.{ask_of}
use Rattle.trace_program.specs.Import.{AsksFor}
use Rattle.trace_report.specs.Output.{line}
use Rattle.trace_report.specs.Streams.{AppendsFront, IsTold, Streams}
use Rattle.std.specs.Prelude.{codes}
use Rattle.trace_report.specs.declared.status.Status.{Status}
use Rattle.trace_report.specs.declared.status.Status.TheVariants.{Done, FaultsFailed, InputFailed, NoMemory, Refused, Unmet}

-- whether notes on what is on standard input can be asked for; not if bad arguments say that it isn't read
abbrev pub may_have_notes : CommandValue → Bool
may_have_notes (judge perms name format quiet) = is_ok (ask_of perms name)
may_have_notes (match_name perms name format quiet) = is_ok (ask_of perms name)
may_have_notes (explain_flattened perms name format choice) = is_ok (ask_of perms name)
may_have_notes (compile depth) = true
may_have_notes check = true
may_have_notes (run capacity) = true
may_have_notes (test capacity format answers) = true
may_have_notes (steps capacity) = true
may_have_notes (import_text asked) = true
may_have_notes _ = false

-- whether the command explains a text that it refuses, without being asked to
abbrev pub explains : CommandValue → Bool
explains (explain_flattened perms name format choice) = true
explains _ = false

abbrev pub has_notes : LineValue → Bool
has_notes asked = (asked.verbose || explains asked.command) && may_have_notes asked.command

-- the notes on an import that is refused, of each profile or of the one that is chosen
abbrev pub AreNotesOn : Bool → ImportOptions → List ℕ → List ℕ → Type 0
AreNotesOn true options text notes = AreAllImportNotes options text notes
AreNotesOn false options text notes = IsImportNotes options text notes

abbrev pub AreImportNotes : ImportValue → List ℕ → List ℕ → Type 0
AreImportNotes asked text notes =
    (options : ImportOptions) × AsksFor options asked.choice asked.strict × AreNotesOn asked.all options text notes

-- the notes on a text of which the profile that is chosen can't be imported
abbrev pub AreNotesOnOne : ChoiceValue → List ℕ → List ℕ → Type 0
AreNotesOnOne choice text notes = (options : ImportOptions) × AsksFor options choice false × IsImportNotes options text notes

-- the notes on what is refused
abbrev pub AreRefusalNotes : CommandValue → List ℕ → List ℕ → Type 0
AreRefusalNotes (judge perms name format quiet) text notes = notes ≡ profile_notes text
AreRefusalNotes (match_name perms name format quiet) text notes = IsImageNotes text notes
AreRefusalNotes (compile depth) text notes = notes ≡ profile_notes text
AreRefusalNotes check text notes = IsImageNotes text notes
AreRefusalNotes (run capacity) text notes = notes ≡ script_notes Run text
AreRefusalNotes (test capacity format answers) text notes = notes ≡ script_notes Test text
AreRefusalNotes (steps capacity) text notes = notes ≡ script_notes Steps text
AreRefusalNotes (import_text asked) text notes = AreImportNotes asked text notes
AreRefusalNotes (explain_flattened perms name format choice) text notes = AreNotesOnOne choice text notes
AreRefusalNotes _ text notes = notes ≡ []

-- those on a script that is done, in which profiles may have been refused
abbrev pub AreScriptNotes : CommandValue → List ℕ → List ℕ → Type 0
AreScriptNotes (run capacity) text notes = notes ≡ script_notes Run text
AreScriptNotes (test capacity format answers) text notes = notes ≡ script_notes Test text
AreScriptNotes (steps capacity) text notes = notes ≡ script_notes Steps text
AreScriptNotes _ text notes = notes ≡ []

-- the notes of a command, by how it ended on a text
abbrev pub AreNotesOf : CommandValue → List ℕ → Status → List ℕ → Type 0
AreNotesOf command text Refused notes = AreRefusalNotes command text notes
AreNotesOf command text Done notes = AreScriptNotes command text notes
AreNotesOf command text Unmet notes = AreScriptNotes command text notes
AreNotesOf command text _ notes = notes ≡ []

-- notes were appended, or a prefix of them if that failed, or `no memory` if they couldn't be composed
abbrev pub NotesFollow : (Status → List ℕ → Type 0) → Option (List ℕ) → Option (List ℕ) → Status → Status → Type 0
NotesFollow AreNotes before after first status =
    ((notes : List ℕ) × AreNotes first notes
    × (((status ≡ first) × Appends before after notes) ⊎ ((status ≡ FaultsFailed) × AppendsFront before after notes)))
    ⊎ IsTold before after no_memory_text NoMemory status

-- as the command ends over all that is on standard input, and then its notes by how that was
pub record IsNoted (Ended : Streams → Option (List ℕ) → Option (List ℕ) → Status → Type 0) (AreNotes : Status → List ℕ → Type 0)
    (text : List ℕ) (streams : Streams) (status : Status) : Type 0 where
  -- what standard error has between the two
  pub told : Option (List ℕ)
  -- what the command left of the text, and how it ended
  pub left : Option (List ℕ)
  pub first : Status
  pub ended : Ended (record streams { faults_after = told }) (Some text) left first
  pub noted : NotesFollow AreNotes told streams.faults_after first status

-- standard input couldn't be read whole
pub record IsUnreadWhole (streams : Streams) (status : Status) : Type 0 where
  pub answers : Keeps streams.answers_before streams.answers_after
  pub faults : IsTold streams.faults_before streams.faults_after (codes "refused: input") InputFailed status
      ⊎ IsTold streams.faults_before streams.faults_after no_memory_text NoMemory status

abbrev pub EndsWithNotes : (Streams → Option (List ℕ) → Option (List ℕ) → Status → Type 0) → (Status → List ℕ → Type 0) → List ℕ → Streams
    → Status → Type 0
EndsWithNotes Ended AreNotes text streams status = IsNoted Ended AreNotes text streams status ⊎ IsUnreadWhole streams status
