-- What engines of scripts have in common: the state of reading, lines that are read and written, and why a script isn't followed to
-- its end.
use Rattle.names.specs.Limits.{most_changes}
use Rattle.mediation.specs.History.{History}
use Rattle.names.specs.Errors.{no_memory_text}
use Rattle.std.specs.Prelude.{◌≡◌, ◌≢◌, ℕ, ◌<◌, ◌≤◌, List, [], ◌∷◌, ◌++◌, length, All, codes, decimal, Option, Some, None}
use Rattle.std.specs.Prelude.{Result, Ok, Err, Vec, IfSome}
use Rattle.std.specs.Io.KnownBytes.{Appends, Consumes}
use Rattle.std.specs.IoError.{error_kind}
use Rattle.std.specs.declared.alloc.Global.{Global}
use Rattle.std.specs.declared.io.Error.{Error}
use Rattle.std.specs.declared.io.ErrorKind.TheVariants.{OutOfMemory}
use Rattle.trace_report.specs.declared.status.Status.{Status}
use Rattle.trace_report.specs.declared.status.Status.TheVariants.{Refused, InputFailed, OutputFailed, NoMemory}
use Rattle.trace_report.specs.Output.{line}
use Rattle.trace_report.specs.Streams.{AppendsFront}
use Rattle.trace_script.specs.declared.section.Section.{Section as SectionHere}
use Rattle.trace_script.specs.declared.section.Section.TheVariants.{Outside, Within}
use Rattle.trace_script.specs.declared.reader.LineRead.{LineRead}
use Rattle.trace_script.specs.declared.reader.LineRead.TheVariants.{Whole, Last, End}
use Rattle.trace_script.specs.declared.stop.Stop.{Stop}
use Rattle.trace_script.specs.declared.stop.Stop.TheVariants.{NoCommand, Input, TooLong, Memory, Output}
use Rattle.trace_script.specs.RunOutput.{Printed}
use Rattle.trace_script.specs.Script.{Section, outside, within, line_feed, lines_of}

abbrev pub section_value : SectionHere → Section
section_value Outside = outside
section_value (Within start text) = within start text.items

-- the message that says why a script isn't followed to its end
abbrev pub stop_text : Stop → List ℕ
stop_text (NoCommand number) = codes "line " ++ decimal number ++ codes ": not a command"
stop_text Input = codes "refused: input"
stop_text TooLong = codes "refused: input"
stop_text Memory = no_memory_text
stop_text Output = codes "refused: output"

abbrev pub stop_status : Stop → Status
stop_status (NoCommand number) = Refused
stop_status Input = InputFailed
stop_status TooLong = InputFailed
stop_status Memory = NoMemory
stop_status Output = OutputFailed

-- how a reader's error stops a script
abbrev pub IsStopOfReading : Error → Stop → Type 0
IsStopOfReading error Input = error_kind error ≢ OutOfMemory
IsStopOfReading error Memory = error_kind error ≡ OutOfMemory
IsStopOfReading error _ = ⊥

-- a part of what was left was taken, of one line at most
abbrev pub IsPartRead : Option (List ℕ) → Option (List ℕ) → List ℕ → Type 0
IsPartRead before after part = Consumes before after part × (length (lines_of part) ≤ 1)

-- a line that was read off the front of what was left, where that is known
abbrev pub IsLineRead : Option (List ℕ) → Option (List ℕ) → List ℕ → Result LineRead Stop → Type 0
IsLineRead before after line (Ok Whole) = Consumes before after (line ++ line_feed ∷ []) × All (λ b. b ≢ line_feed) line
IsLineRead before after line (Ok Last) =
    IfSome before (λ left. left ≡ line) × All (λ b. b ≢ line_feed) line × (0 < length line) × Consumes before after line
IsLineRead before after line (Ok End) = IfSome before (λ left. left ≡ []) × Consumes before after []
IsLineRead before after line (Err Input) = IsPartRead before after line
IsLineRead before after line (Err Memory) = IsPartRead before after line
IsLineRead before after line (Err _) = ⊥

-- the most lines that are read of a script
abbrev pub most_lines : ℕ
most_lines = most_changes

-- what was taken from the reader, where that is known, has as many lines as are read of a script
abbrev pub IsTooLong : Option (List ℕ) → Option (List ℕ) → Type 0
IsTooLong left left_after = (read : List ℕ) × Consumes left left_after read × (length (lines_of read) ≡ most_lines)

-- the line at which a policy without an end began
abbrev pub is_open_at : Section → Option ℕ
is_open_at outside = None
is_open_at (within start text) = Some start

-- the script ends within a policy, or not
abbrev pub IsClosed : {T : Type 0} → Section → Result T Stop → Type 0
IsClosed section (Ok done) = is_open_at section ≡ None
IsClosed section (Err (NoCommand number)) = is_open_at section ≡ Some number
IsClosed section (Err _) = ⊥

-- bytes were written, or a front part of them
abbrev pub IsPut : {T : Type 0} → Option (List ℕ) → Option (List ℕ) → List ℕ → Result T Stop → Type 0
IsPut before after bytes (Ok done) = Appends before after bytes
IsPut before after bytes (Err Output) = AppendsFront before after bytes
IsPut before after bytes (Err _) = ⊥

-- a printed line, composed, and what was done then; or memory ran out
abbrev pub IsComposed : Printed → History → Result (Vec ℕ Global) Stop → Type 0
IsComposed p history (Ok text) = (text.items ≡ line p.text) × (history ≡ p.history)
IsComposed p history (Err stop) = stop ≡ Memory

-- a text as a line, or memory ran out
abbrev pub IsText : List ℕ → Result (Vec ℕ Global) Stop → Type 0
IsText text (Ok bytes) = bytes.items ≡ line text
IsText text (Err stop) = stop ≡ Memory
