-- What `test` writes: the answers, if they are to be shown, the expectations that don't hold, and how many hold.
use Rattle.names.specs.Ascii as ascii
use Rattle.names.specs.Errors.{no_memory_text}
use Rattle.std.specs.Prelude.{ℕ, ◌+◌, ◌≤◌, Bool, false, not, List, [], ◌∷◌, ◌++◌, map, count_by, take, length, codes, decimal}
use Rattle.std.specs.Prelude.{Option, Some, None, unwrap_or, if◌then◌else◌}
use Rattle.std.specs.Char.{is_ascii_control}
use Rattle.std.specs.List.{flat_map, list_all}
use Rattle.std.specs.Io.KnownBytes.{Appends, Consumes}
use Rattle.answer_json.specs.Values.{name_value, number_value}
use Rattle.glob_automaton.specs.Automata.{StateLimit}
use Rattle.mediation.specs.History.{History, new_history}
use Rattle.trace_report.specs.declared.format.Format.{Format}
use Rattle.trace_report.specs.declared.format.Format.TheVariants.{Text, Json}
use Rattle.trace_report.specs.declared.status.Status.{Status}
use Rattle.trace_report.specs.declared.status.Status.TheVariants.{Done, Unmet, BadArguments, Refused, InputFailed, OutputFailed}
use Rattle.trace_report.specs.declared.status.Status.TheVariants.{FaultsFailed, NoMemory}
use Rattle.serde_json.specs.Data.{Data, null, object, member, no_members}
use Rattle.serde_json.specs.Written.{compact_text}
use Rattle.trace_report.specs.Output.{Output, line}
use Rattle.trace_report.specs.Streams.{Streams, IsWritten, AppendsFront}
use Rattle.trace_script.specs.RunOutput.{IsCut, ended_output, text_of_lines}
use Rattle.trace_script.specs.Script.{ScriptOf}
use Rattle.trace_test.specs.declared.options.TestOptions.{TestOptions}
use Rattle.trace_test.specs.Expectations.{Event, answer_of, compared, Expectation, holds, events, expectations_in, first_events}
use Rattle.test_script.specs.TestScript.{TestCommand, test_script}

-- ---- lines

-- a control byte is shown as `?`
abbrev pub shown_byte : ℕ → ℕ
shown_byte b = if is_ascii_control b then ascii.question_mark else b

abbrev pub shown : List ℕ → List ℕ
shown text = map shown_byte text

abbrev pub name_or_null : Option (List ℕ) → Data
name_or_null None = null
name_or_null (Some name) = name_value name

-- {"expected":TEXT,"got":ANSWER,"line":LINE}, with all bytes as they are
abbrev pub failure_object : Expectation → Data
failure_object e = object
    (member (codes "expected") (name_or_null e.expected)
    (member (codes "got") (name_or_null e.got)
    (member (codes "line") (number_value e.number) no_members)))

abbrev pub got_text : Option (List ℕ) → List ℕ
got_text got = shown (unwrap_or got (codes "nothing"))

-- `expected TEXT, got ANSWER`, or `ANSWER`, which refuses a policy
abbrev pub compared_text : Option (List ℕ) → Option (List ℕ) → List ℕ
compared_text (Some text) got = codes "expected " ++ (shown text ++ (codes ", got " ++ got_text got))
compared_text None got = got_text got

-- `LINE: `, and that
abbrev pub failure_text : Format → Expectation → List ℕ
failure_text Json e = compact_text (failure_object e)
failure_text Text e = decimal e.number ++ (codes ": " ++ compared_text e.expected e.got)

-- {"answer":ANSWER,"line":LINE}
abbrev pub answer_object : ℕ → List ℕ → Data
answer_object number text = object
    (member (codes "answer") (name_value text) (member (codes "line") (number_value number) no_members))

-- an answer, as `run` prints it
abbrev pub answer_text : Format → ℕ → List ℕ → List ℕ
answer_text Json number text = compact_text (answer_object number text)
answer_text Text number text = text

-- each answer, if answers are to be shown, and each expectation that doesn't hold
abbrev pub event_lines : TestOptions → Event → List (List ℕ)
event_lines options (answer_of number text) = if options.answers then answer_text options.format number text ∷ [] else []
event_lines options (compared e) = if holds e then [] else failure_text options.format e ∷ []

abbrev pub lines_of_events : TestOptions → List Event → List (List ℕ)
lines_of_events options es = flat_map (event_lines options) es

-- {"expectations":N,"held":K}
abbrev pub count_object : ℕ → ℕ → Data
count_object held total = object
    (member (codes "expectations") (number_value total) (member (codes "held") (number_value held) no_members))

-- `K of N expectations hold`
abbrev pub count_text : Format → ℕ → ℕ → List ℕ
count_text Json held total = compact_text (count_object held total)
count_text Text held total = decimal held ++ codes " of " ++ decimal total ++ codes " expectations hold"

abbrev pub count_line : TestOptions → List Expectation → List ℕ
count_line options es = count_text options.format (count_by holds es) (length es)

abbrev pub all_lines : TestOptions → List Event → List (List ℕ)
all_lines options es = lines_of_events options es ++ count_line options (expectations_in es) ∷ []

-- ---- the output

-- a test that expects nothing shows nothing
abbrev pub tested_status : List Expectation → Status
tested_status [] = Unmet
tested_status (e ∷ es) = if list_all holds (e ∷ es) then Done else Unmet

-- a test of these commands, which goes to its end or to a line that is no command
abbrev pub tested_output : TestOptions → StateLimit → History → List TestCommand → Option ℕ → Output
tested_output options limit history commands None = record {
  answers = text_of_lines (all_lines options (events limit history commands));
  faults = [];
  status = tested_status (expectations_in (events limit history commands));
}
tested_output options limit history commands (Some number) =
    ended_output (lines_of_events options (first_events limit history commands)) (Some number)

abbrev pub test_output : TestOptions → StateLimit → History → ScriptOf TestCommand → Output
test_output options limit history script = tested_output options limit history script.commands script.stopped

-- What was taken from the reader, where that is known, has at most one command more than the `count` that are done.
abbrev pub TestRead : Option (List ℕ) → Option (List ℕ) → ℕ → Type 0
TestRead left_before left_after count =
    (read : List ℕ) × Consumes left_before left_after read × (length (test_script read).commands ≤ count + 1)

-- the lines of the first commands were written, those of all that were read except perhaps the last, and why there
-- are no more is reported
pub record IsBrokenOff (options : TestOptions) (limit : StateLimit) (streams : Streams) (left_before left_after : Option (List ℕ))
    (history : History)
    (text told : List ℕ) : Type 0 where
  pub count : ℕ
  pub read : TestRead left_before left_after count
  pub answers : Appends streams.answers_before streams.answers_after
      (text_of_lines (lines_of_events options (first_events limit history (take count (test_script text).commands))))
  pub faults : Appends streams.faults_before streams.faults_after (line told)

-- How a test ends that is done after this history. `left_before` and `left_after` are the reader's bytes.
abbrev pub TestEnds : TestOptions → StateLimit → Streams → Option (List ℕ) → Option (List ℕ) → History → List ℕ → Status → Type 0
TestEnds options limit streams left_before left_after history text Done =
    IsWritten streams (test_output options limit history (test_script text)) Done
TestEnds options limit streams left_before left_after history text Unmet =
    IsWritten streams (test_output options limit history (test_script text)) Unmet
TestEnds options limit streams left_before left_after history text BadArguments = ⊥
TestEnds options limit streams left_before left_after history text Refused =
    IsWritten streams (test_output options limit history (test_script text)) Refused
TestEnds options limit streams left_before left_after history text InputFailed =
    IsBrokenOff options limit streams left_before left_after history text (codes "refused: input")
TestEnds options limit streams left_before left_after history text NoMemory = IsBrokenOff options limit streams left_before left_after
    history text no_memory_text
TestEnds options limit streams left_before left_after history text OutputFailed =
    IsCut streams (test_output options limit history (test_script text))
TestEnds options limit streams left_before left_after history text FaultsFailed =
    AppendsFront streams.answers_before streams.answers_after (test_output options limit history (test_script text)).answers

-- How `test` ends on a tree that begins as the root alone, with room for `capacity` entries.
abbrev pub TestEndsFrom : TestOptions → StateLimit → Streams → Option (List ℕ) → Option (List ℕ) → ℕ → List ℕ → Status → Type 0
TestEndsFrom options limit streams left_before left_after capacity text status = TestEnds options limit streams left_before left_after
    (new_history capacity) text status
