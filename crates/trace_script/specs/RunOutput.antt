-- What `run` writes, apart from running out of memory and failures of the streams: a line for each command of the script. A test,
-- `limit`, decides which profiles have too many states: there is one, and any two agree.
use Rattle.names.specs.Errors.{no_memory_text}
use Rattle.std.specs.Prelude.{ℕ, Bool, ◌+◌, ◌≤◌, Option, List, [], ◌∷◌, ◌++◌, map, take, length, codes, decimal, Some, None, Result, Ok}
use Rattle.std.specs.Prelude.{Err, if◌then◌else◌}
use Rattle.std.specs.List.{concat}
use Rattle.std.specs.Io.KnownBytes.{Appends, Consumes}
use Rattle.glob_automaton.specs.Automata.{StateLimit}
use Rattle.matcher.specs.declared.fault.MakeFault.TheVariants.{TooManyStates}
use Rattle.names.specs.declared.errors.Errno.{Errno}
use Rattle.names.specs.Errors.{errno_text}
use Rattle.names.specs.declared.permissions.Perms.{Perms}
use Rattle.directory_tree.specs.declared.change.Change.{Change}
use Rattle.directory_tree.specs.declared.change.Change.TheVariants as tree
use Rattle.directory_tree.specs.Plain.{outcome}
use Rattle.directory_tree.specs.Apply.{and_then}
use Rattle.rule_reader.specs.declared.fault.ReadFault.{ReadFault}
use Rattle.rule_profile.specs.Profile.{ProfileValue}
use Rattle.rule_reader.specs.ReadText.{outcome_of}
use Rattle.trace_report.specs.declared.status.Status.{Status}
use Rattle.trace_report.specs.declared.status.Status.TheVariants.{Done, Unmet, BadArguments, Refused, InputFailed, OutputFailed}
use Rattle.trace_report.specs.declared.status.Status.TheVariants.{FaultsFailed, NoMemory}
use Rattle.trace_report.specs.Output.{Output, line, refusal, compile_refusal}
use Rattle.trace_report.specs.Streams.{Streams, IsTextOf, IsWritten, AppendsFront}
use Rattle.trace_script.specs.Script.{ChangeWords, Command, Script, mkdir, create, symlink, link, unlink, rmdir, rename, publish, remove}
use Rattle.trace_script.specs.Script.{alter, judge_open, judge_link, script_of}
use Rattle.mediation.specs.History.{History, new_history, with_deed, with_change, after_link, tree_version, policy_version, open_answer}
use Rattle.mediation.specs.History.{link_answer}
use Rattle.mediation.specs.Deeds.{published_rules, removed}
use Rattle.mediation.specs.Opens.{path_of}
use Rattle.mediation.specs.Links.{LinkAnswered}
use Rattle.trace_script.specs.AnswerText.{answered_text, link_answered_text}

-- a line that is printed, and what was done then
pub record Printed : Type 0 where
  pub text : List ℕ
  pub history : History

-- a change with checked paths, or the first fault of a path, the old one's before the new one's
abbrev pub change_of : ChangeWords → Result Change Errno
change_of (mkdir path) = and_then (path_of path) (λ p. Ok (tree.Mkdir p))
change_of (create path) = and_then (path_of path) (λ p. Ok (tree.Create p))
change_of (symlink text path) = and_then (path_of path) (λ p. Ok (tree.Symlink text p))
change_of (link old new) = and_then (path_of old) (λ a. and_then (path_of new) (λ b. Ok (tree.Link a b)))
change_of (unlink path) = and_then (path_of path) (λ p. Ok (tree.Unlink p))
change_of (rmdir path) = and_then (path_of path) (λ p. Ok (tree.Rmdir p))
change_of (rename old new) = and_then (path_of old) (λ a. and_then (path_of new) (λ b. Ok (tree.Rename a b)))

-- `ok V`, with the tree's new version, or why the change is refused
abbrev pub change_printed : History → Result Change Errno → Printed
change_printed history (Err errno) = record { text = errno_text errno; history = history }
change_printed history (Ok c) = elim (outcome history.tree c) [
  | Ok t ↦ record { text = codes "ok " ++ decimal (tree_version history + 1); history = with_change history c }
  | Err errno ↦ record { text = errno_text errno; history = history }
]

-- a profile that isn't over the limit is published: `policy NAME version V`, with the policy's new version; one that is over
-- it is refused: `policy refused: compile 1`
abbrev pub profile_printed : History → ProfileValue → Bool → Printed
profile_printed history profile is_over =
    if is_over
    then record { text = codes "policy " ++ compile_refusal TooManyStates; history = history }
    else record {
      text = codes "policy " ++ profile.name ++ codes " version " ++ decimal (policy_version history + 1);
      history = with_deed history (published_rules profile);
    }

-- what is printed for a profile, or `policy refused: read N at OFFSET`; a refusal changes nothing
abbrev pub policy_printed : StateLimit → History → Result ProfileValue ReadFault → Printed
policy_printed limit history (Ok profile) = profile_printed history profile (limit.is_over profile.rules)
policy_printed limit history (Err fault) = record { text = codes "policy " ++ refusal fault; history = history }

-- `policy NAME removed version V`, whether or not there was such a profile
abbrev pub drop_printed : History → List ℕ → Printed
drop_printed history name = record {
  text = codes "policy " ++ name ++ codes " removed version " ++ decimal (policy_version history + 1);
  history = with_deed history (removed name);
}

-- an answer to a judged link
abbrev pub link_printed : History → List ℕ → List ℕ → LinkAnswered → Printed
link_printed history old new answer = record { text = link_answered_text answer; history = after_link history old new answer }

-- an answer to an open
abbrev pub open_printed : History → List ℕ → List ℕ → Perms → Printed
open_printed history profile path ask = record {
  text = answered_text (open_answer history profile path ask);
  history = history;
}

-- an answer to a judged link, by the profile of a name
abbrev pub judged_printed : History → List ℕ → List ℕ → List ℕ → Printed
judged_printed history profile old new = link_printed history old new (link_answer history profile old new)

abbrev pub printed : StateLimit → History → Command → Printed
printed limit history (publish text) = policy_printed limit history (outcome_of text)
printed limit history (remove name) = drop_printed history name
printed limit history (alter words) = change_printed history (change_of words)
printed limit history (judge_open profile path ask) = open_printed history profile path ask
printed limit history (judge_link profile old new) = judged_printed history profile old new

-- one line for each command, by what the commands before it have done
abbrev pub printed_lines : StateLimit → History → List Command → List (List ℕ)
printed_lines limit history [] = []
printed_lines limit history (c ∷ cs) = (printed limit history c).text ∷ printed_lines limit (printed limit history c).history cs

-- the bytes of lines, each with its line feed
abbrev pub text_of_lines : List (List ℕ) → List ℕ
text_of_lines lines = concat (map line lines)

-- a script that prints these lines, and runs to its end or to a line that is no command
abbrev pub ended_output : List (List ℕ) → Option ℕ → Output
ended_output lines None = record { answers = text_of_lines lines; faults = []; status = Done }
ended_output lines (Some number) =
    record { answers = text_of_lines lines; faults = line (codes "line " ++ decimal number ++ codes ": not a command"); status = Refused }

abbrev pub script_output : StateLimit → History → Script → Output
script_output limit history script = ended_output (printed_lines limit history script.commands) script.stopped

abbrev pub run_output : StateLimit → ℕ → List ℕ → Output
run_output limit capacity text = script_output limit (new_history capacity) (script_of text)

-- the lines of all commands of a script
abbrev pub run_lines : StateLimit → ℕ → List ℕ → List (List ℕ)
run_lines limit capacity text = printed_lines limit (new_history capacity) (script_of text).commands

-- Of what was taken from the reader, if that is known, all commands are answered except perhaps the last, if there are `count`
-- answers.
abbrev pub AnswersRead : Option (List ℕ) → Option (List ℕ) → ℕ → Type 0
AnswersRead left_before left_after count =
    (read : List ℕ) × Consumes left_before left_after read × (length (script_of read).commands ≤ count + 1)

-- the first lines were written whole, those of all commands that were read except perhaps the last, and it is reported why there
-- are no more
pub record IsBrokenOff (streams : Streams) (left_before left_after : Option (List ℕ)) (lines : List (List ℕ))
    (told : List ℕ) : Type 0 where
  pub count : ℕ
  pub read : AnswersRead left_before left_after count
  pub answers : Appends streams.answers_before streams.answers_after (text_of_lines (take count lines))
  pub faults : Appends streams.faults_before streams.faults_after (line told)

-- a line couldn't be written whole: a prefix of the answers was written
pub record IsCut (streams : Streams) (output : Output) : Type 0 where
  pub answers : AppendsFront streams.answers_before streams.answers_after output.answers
  pub faults : Appends streams.faults_before streams.faults_after (line (codes "refused: output"))

-- How a script ends that is answered after this history. `left_before` and `left_after` are the reader's bytes.
abbrev pub ScriptEnds : StateLimit → Streams → Option (List ℕ) → Option (List ℕ) → History → List ℕ → Status → Type 0
ScriptEnds limit streams left_before left_after history text Done = IsWritten streams (script_output limit history (script_of text)) Done
ScriptEnds limit streams left_before left_after history text Unmet = ⊥
ScriptEnds limit streams left_before left_after history text BadArguments = ⊥
ScriptEnds limit streams left_before left_after history text Refused =
    IsWritten streams (script_output limit history (script_of text)) Refused
ScriptEnds limit streams left_before left_after history text InputFailed =
    IsBrokenOff streams left_before left_after (printed_lines limit history (script_of text).commands) (codes "refused: input")
ScriptEnds limit streams left_before left_after history text NoMemory =
    IsBrokenOff streams left_before left_after (printed_lines limit history (script_of text).commands) no_memory_text
ScriptEnds limit streams left_before left_after history text OutputFailed = IsCut streams (script_output limit history (script_of text))
ScriptEnds limit streams left_before left_after history text FaultsFailed =
    AppendsFront streams.answers_before streams.answers_after (script_output limit history (script_of text)).answers

-- The same for some text that the reader's bytes may be, for each test for too many states.
pub record ScriptEndsOver (streams : Streams) (left_before left_after : Option (List ℕ)) (history : History)
    (status : Status) : Type 0 where
  pub ended : (limit : StateLimit) → (text : List ℕ) × IsTextOf left_before text
      × ScriptEnds limit streams left_before left_after history text status

-- How `run` ends. Bad arguments are found earlier.
abbrev pub RunEnds : StateLimit → Streams → Option (List ℕ) → Option (List ℕ) → ℕ → List ℕ → Status → Type 0
RunEnds limit streams left_before left_after capacity text status = ScriptEnds limit streams left_before left_after
    (new_history capacity) text status
