-- What the engine knows between two lines, and what its commands do.
use Rattle.std.specs.Prelude.{◌≡◌, ℕ, ◌+◌, ◌==◌, Bool, List, [], ◌∷◌, ◌++◌, length, take}
use Rattle.std.specs.Prelude.{Option, Some, None, option_map, Result, Ok, Err, Vec, if◌then◌else◌}
use Rattle.std.specs.Io.KnownBytes.{Appends}
use Rattle.std.specs.declared.alloc.Global.{Global}
use Rattle.glob_automaton.specs.Automata.{StateLimit}
use Rattle.mediation.specs.History.{History}
use Rattle.rule_profile.specs.Profile.{ProfileValue}
use Rattle.rule_reader.specs.declared.fault.ReadFault.{ReadFault}
use Rattle.trace_report.specs.Output.{line}
use Rattle.trace_report.specs.declared.status.Status.{Status}
use Rattle.trace_report.specs.declared.status.Status.TheVariants.{Done, Unmet}
use Rattle.trace_report.specs.Streams.{AppendsFront}
use Rattle.trace_script.specs.declared.stop.Stop.{Stop}
use Rattle.trace_script.specs.declared.stop.Stop.TheVariants.{NoCommand, Input, TooLong, Memory, Output}
use Rattle.trace_script.specs.FollowedScripts.{ExactEngine, Step}
use Rattle.trace_script.specs.RunOutput.{Printed, policy_printed, printed, text_of_lines}
use Rattle.trace_test.specs.declared.options.TestOptions.{TestOptions}
use Rattle.trace_test.specs.declared.progress.Progress.{Progress}
use Rattle.trace_test.specs.declared.publication.PolicyAnswer.{PolicyAnswer}
use Rattle.trace_test.specs.Expectations.{Event, answer_of, compared, Expectation, Last, nothing, answer, refusal, events, expectations}
use Rattle.trace_test.specs.Expectations.{first_events, holds, is_refused, last_of, once_compared, refuses, text_of, unexpected}
use Rattle.trace_test.specs.Questions.{RulesByName, explain_text, judge_text}
use Rattle.trace_test.specs.TestOutput.{TestRead, all_lines, count_text, lines_of_events, test_output, tested_status}
use Rattle.test_script.specs.TestScript.{Asked, run, judge, explain, TestCommand, ask, expect, test_grammar, test_script}
use Rattle.trace_test.specs.inner.Published.{published_by, rules_in, with_outcome}

-- ---- the engine

pub record Testing : Type 0 where
  pub history : History
  -- the rules that are published
  pub published : RulesByName
  pub last : Last
  -- how many expectations hold, and how many there are
  pub held : ℕ
  pub total : ℕ
  -- what is shown
  pub options : TestOptions

abbrev pub first_testing : TestOptions → History → Testing
first_testing options history = record {
  history = history;
  published = λ name. None;
  last = nothing;
  held = 0;
  total = 0;
  options = options;
}

-- an answer, and the line of the policy that it refuses, if it does
abbrev pub last_by : Option ℕ → List ℕ → Last
last_by None text = answer text
last_by (Some number) text = refusal number text

abbrev pub last_value : Option (List ℕ) → Option ℕ → Last
last_value None refused = nothing
last_value (Some text) refused = last_by refused text

abbrev pub last_in : Progress → Last
last_in p = last_value (option_map (λ (v : Vec ℕ Global). v.items) p.last) p.refused

abbrev pub testing : History → Progress → Testing
testing history p = record {
  history = history;
  published = rules_in p.published;
  last = last_in p;
  held = p.held;
  total = p.total;
  options = p.options;
}

-- a refusal of which nothing is expected so far is counted, too
abbrev pub counted_in : Progress → ℕ
counted_in p = p.total + length (unexpected (last_in p))

-- the events that an answer makes
abbrev pub asked_events : Last → ℕ → List ℕ → List Event
asked_events last number text = unexpected last ++ answer_of number text ∷ []

abbrev pub with_last : Testing → List ℕ → Last → Testing
with_last t text last = record t { last = last; total = t.total + length (unexpected t.last) }

abbrev pub once_answered : Testing → List ℕ → Option ℕ → Testing
once_answered t text refused = with_last t text (last_by refused text)

abbrev pub with_one : Testing → Bool → Testing
with_one t is_held = record t {
  last = once_compared t.last;
  held = t.held + (if is_held then 1 else 0);
  total = t.total + 1;
}

-- the line that answers a command where these rules are published
abbrev pub answered_with : StateLimit → History → RulesByName → Asked → Printed
answered_with limit history published (run c) = printed limit history c
answered_with limit history published (judge q) = record { text = judge_text published q; history = history }
answered_with limit history published (explain q) = record { text = explain_text published q; history = history }

-- and the rules that are published then
abbrev pub rules_with : StateLimit → Asked → RulesByName → RulesByName
rules_with limit (run c) published = published_by limit c published
rules_with limit (judge q) published = published
rules_with limit (explain q) published = published

-- an answer is shown and kept, where these rules are published then
abbrev pub answered_step : Testing → ℕ → Printed → RulesByName → Last → Step Testing
answered_step t number p published last = record {
  lines = lines_of_events t.options (asked_events t.last number p.text);
  state = record {
    history = p.history;
    published = published;
    last = last;
    held = t.held;
    total = t.total + length (unexpected t.last);
    options = t.options;
  };
}

abbrev pub asked_step : Testing → ℕ → Printed → RulesByName → Option ℕ → Step Testing
asked_step t number p published refused = answered_step t number p published (last_by refused p.text)

abbrev pub expected_step : Testing → Expectation → Step Testing
expected_step t e = record { lines = lines_of_events t.options (compared e ∷ []); state = with_one t (holds e) }

abbrev pub test_step : StateLimit → Testing → TestCommand → Step Testing
test_step limit t (ask number c) =
    let p = answered_with limit t.history t.published c in
    answered_step t number p (rules_with limit c t.published) (last_of number p.text (refuses limit c))
test_step limit t (expect number text) = expected_step t (record { number = number; expected = Some text; got = text_of t.last })

abbrev pub test_engine : StateLimit → ExactEngine TestCommand Testing
test_engine limit = record { grammar = test_grammar; does = test_step limit }

-- ---- what its functions return

-- the lines of events, or memory was refused
abbrev pub IsLinesOf : TestOptions → List Event → Result (Vec ℕ Global) Stop → Type 0
IsLinesOf options es (Ok bytes) = bytes.items ≡ text_of_lines (lines_of_events options es)
IsLinesOf options es (Err stop) = stop ≡ Memory

abbrev pub ending_lines : Testing → List (List ℕ)
ending_lines t = lines_of_events t.options (unexpected t.last)
    ++ count_text t.options.format t.held (t.total + length (unexpected t.last)) ∷ []

abbrev pub IsEnding : Progress → Result (Vec ℕ Global) Stop → Type 0
IsEnding p (Ok bytes) = (history : History) → bytes.items ≡ text_of_lines (ending_lines (testing history p))
IsEnding p (Err stop) = stop ≡ Memory

abbrev pub status_by : ℕ → ℕ → Status
status_by held total = if total == 0 then Unmet else (if held == total then Done else Unmet)

-- a command was done, its rules were kept, and its answer was composed; or memory was refused
abbrev pub IsAnswered : StateLimit → History → RulesByName → Asked → History → RulesByName → Result (Vec ℕ Global) Stop → Type 0
IsAnswered limit history published c history_now published_now (Ok bytes) =
    (bytes.items ≡ line (answered_with limit history published c).text)
    × (history_now ≡ (answered_with limit history published c).history) × (published_now ≡ rules_with limit c published)
IsAnswered limit history published c history_now published_now (Err stop) = stop ≡ Memory

-- one, if it is refused
abbrev pub refusals_in : PolicyAnswer → ℕ
refusals_in answered = length (unexpected (last_by answered.refused []))

-- the policy whose `policy` line has this number was refused by this text
abbrev pub IsRefusal : ℕ → List ℕ → Result PolicyAnswer Stop → Type 0
IsRefusal start text (Ok answered) = (answered.line.items ≡ line text) × (answered.refused ≡ Some start)
IsRefusal start text (Err stop) = stop ≡ Memory

-- a policy was published or refused, its rules were kept, and its answer was composed; or memory was refused
abbrev pub IsPolicyDone : ℕ → StateLimit → Result ProfileValue ReadFault → History → RulesByName → History → RulesByName →
    Result PolicyAnswer Stop → Type 0
IsPolicyDone start limit outcome history published history_now published_now (Ok answered) =
    (answered.line.items ≡ line (policy_printed limit history outcome).text)
    × (history_now ≡ (policy_printed limit history outcome).history) × (published_now ≡ with_outcome limit outcome published)
    × (answered.refused ≡ (if is_refused limit outcome then Some start else None))
IsPolicyDone start limit outcome history published history_now published_now (Err stop) = stop ≡ Memory

-- ---- how a test is done

-- the lines of the first commands were written, those of all that were read except perhaps the last
abbrev pub IsShortTest : TestOptions → StateLimit → History → Option (List ℕ) → Option (List ℕ) → List ℕ → Option (List ℕ)
    → Option (List ℕ) → Type 0
IsShortTest options limit history left left_after text before after = (count : ℕ) × TestRead left left_after count
    × Appends before after (text_of_lines (lines_of_events options (first_events limit history (take count (test_script text).commands))))

-- a test was done, or some of it, and why there is no more
abbrev pub IsTested : TestOptions → StateLimit → History → Option (List ℕ) → Option (List ℕ) → List ℕ → Option (List ℕ) → Option (List ℕ) →
    Result Status Stop → Type 0
IsTested options limit history left left_after text before after (Ok status) =
    ((test_script text).stopped ≡ None) × (status ≡ tested_status (expectations limit history (test_script text).commands))
    × Appends before after (text_of_lines (all_lines options (events limit history (test_script text).commands)))
IsTested options limit history left left_after text before after (Err (NoCommand number)) =
    ((test_script text).stopped ≡ Some number) × Appends before after
    (text_of_lines (lines_of_events options (first_events limit history (test_script text).commands)))
IsTested options limit history left left_after text before after (Err Input) =
    IsShortTest options limit history left left_after text before after
IsTested options limit history left left_after text before after (Err TooLong) =
    IsShortTest options limit history left left_after text before after
IsTested options limit history left left_after text before after (Err Memory) =
    IsShortTest options limit history left left_after text before after
IsTested options limit history left left_after text before after (Err Output) =
    AppendsFront before after (test_output options limit history (test_script text)).answers
