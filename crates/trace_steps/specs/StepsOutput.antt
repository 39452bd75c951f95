-- What `steps` writes, and the machine's state afterwards. Which profiles have too many states is decided by a test, `limit`: there
-- is one, and any two agree.
use Rattle.names.specs.Errors.{no_memory_text}
use Rattle.std.specs.Prelude.{ℕ, ◌+◌, ◌≤◌, List, take, length, Option, codes}
use Rattle.std.specs.Io.KnownBytes.{Appends, Consumes}
use Rattle.glob_automaton.specs.Automata.{StateLimit}
use Rattle.event_machine.specs.Machine.{Machine}
use Rattle.trace_report.specs.declared.status.Status.{Status}
use Rattle.trace_report.specs.declared.status.Status.TheVariants.{Done, Unmet, BadArguments, Refused, InputFailed, OutputFailed}
use Rattle.trace_report.specs.declared.status.Status.TheVariants.{FaultsFailed, NoMemory}
use Rattle.trace_report.specs.Output.{line}
use Rattle.trace_report.specs.Streams.{Streams, IsWritten, AppendsFront}
use Rattle.trace_script.specs.RunOutput.{ended_output, text_of_lines}
use Rattle.trace_steps.specs.StepScript.{step_script}
use Rattle.trace_steps.specs.StepLines.{Lines, DoesAll}

-- all commands of the script are done, and what they print is written; the script runs to its end or to a line that isn't a command
pub record IsWhole (limit : StateLimit) (streams : Streams) (text : List ℕ) (old new : Machine) (status : Status) : Type 0 where
  pub lines : Lines
  pub done : DoesAll limit old (step_script text).commands lines new
  pub written : IsWritten streams (ended_output lines (step_script text).stopped) status

-- If `count` commands are done, these are all commands of what was taken from the reader, where that is known, except at most the
-- last.
abbrev pub CommandsRead : Option (List ℕ) → Option (List ℕ) → ℕ → Type 0
CommandsRead left_before left_after count =
    (read : List ℕ) × Consumes left_before left_after read × (length (step_script read).commands ≤ count + 1)

-- the first commands of the script are done, and print these lines
pub record PrintsFirst (limit : StateLimit) (text : List ℕ) (old : Machine) (count : ℕ) (lines : Lines) : Type 0 where
  pub new : Machine
  pub done : DoesAll limit old (take count (step_script text).commands) lines new

-- all commands that were read except the last are done and what they print is written, and why there are no more is reported
pub record IsBrokenOff (limit : StateLimit) (streams : Streams) (left_before left_after : Option (List ℕ)) (text : List ℕ) (old : Machine)
    (told : List ℕ) : Type 0 where
  pub count : ℕ
  pub read : CommandsRead left_before left_after count
  pub lines : Lines
  pub prints : PrintsFirst limit text old count lines
  pub answers : Appends streams.answers_before streams.answers_after (text_of_lines lines)
  pub faults : Appends streams.faults_before streams.faults_after (line told)

-- a front part of what the first commands print is written
pub record IsFront (limit : StateLimit) (streams : Streams) (text : List ℕ) (old : Machine) : Type 0 where
  pub count : ℕ
  pub lines : Lines
  pub prints : PrintsFirst limit text old count lines
  pub answers : AppendsFront streams.answers_before streams.answers_after (text_of_lines lines)

-- How `steps` ends, for a machine in these states before and after. `left_before` and `left_after` are the reader's bytes.
abbrev pub StepsEnd : StateLimit → Streams → Option (List ℕ) → Option (List ℕ) → Machine → Machine → List ℕ → Status → Type 0
StepsEnd limit streams left_before left_after old new text Done = IsWhole limit streams text old new Done
StepsEnd limit streams left_before left_after old new text Unmet = ⊥
StepsEnd limit streams left_before left_after old new text BadArguments = ⊥
StepsEnd limit streams left_before left_after old new text Refused = IsWhole limit streams text old new Refused
StepsEnd limit streams left_before left_after old new text InputFailed =
    IsBrokenOff limit streams left_before left_after text old (codes "refused: input")
StepsEnd limit streams left_before left_after old new text NoMemory = IsBrokenOff limit streams left_before left_after
    text old no_memory_text
StepsEnd limit streams left_before left_after old new text OutputFailed =
    IsFront limit streams text old × Appends streams.faults_before streams.faults_after (line (codes "refused: output"))
StepsEnd limit streams left_before left_after old new text FaultsFailed = IsFront limit streams text old
