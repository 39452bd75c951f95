-- What becomes of a test's commands: each answer, and each expectation with the answer that it is compared with.
use Rattle.std.specs.Prelude.{ℕ, ◌&&◌, ◌==◌, Bool, true, false, List, [], ◌∷◌, ◌++◌, codes}
use Rattle.std.specs.Prelude.{Option, Some, None, Result, Ok, Err, bytes_eq, if◌then◌else◌}
use Rattle.glob_automaton.specs.Automata.{StateLimit}
use Rattle.mediation.specs.History.{History}
use Rattle.rule_profile.specs.Profile.{ProfileValue}
use Rattle.rule_reader.specs.declared.fault.ReadFault.{ReadFault}
use Rattle.rule_reader.specs.ReadText.{outcome_of}
use Rattle.trace_script.specs.RunOutput.{Printed, printed}
use Rattle.trace_script.specs.Script.{Command, publish, remove, alter, judge_open, judge_link, is_blank}
use Rattle.trace_test.specs.Questions.{explain_text, judge_text, rules_after}
use Rattle.test_script.specs.TestScript.{Asked, run, judge, explain, TestCommand, ask, expect, from_word}

-- ---- answers

-- the line that answers a command; a question changes nothing
abbrev pub answered : StateLimit → History → Asked → Printed
answered limit history (run c) = printed limit history c
answered limit history (judge q) = record { text = judge_text (rules_after history.deeds) q; history = history }
answered limit history (explain q) = record { text = explain_text (rules_after history.deeds) q; history = history }

-- whether it refuses a policy
abbrev pub is_refused : StateLimit → Result ProfileValue ReadFault → Bool
is_refused limit (Ok profile) = limit.is_over profile.rules
is_refused limit (Err fault) = true

abbrev pub refuses_policy : StateLimit → Command → Bool
refuses_policy limit (publish text) = is_refused limit (outcome_of text)
refuses_policy limit (remove name) = false
refuses_policy limit (alter words) = false
refuses_policy limit (judge_open profile path asked) = false
refuses_policy limit (judge_link profile old new) = false

abbrev pub refuses : StateLimit → Asked → Bool
refuses limit (run c) = refuses_policy limit c
refuses limit (judge q) = false
refuses limit (explain q) = false

-- ---- expectations

-- `...`, perhaps after blanks
abbrev pub is_dots : List ℕ → Bool
is_dots text = bytes_eq (from_word text) (codes "...")

-- The answer has the same bytes, up to blanks before a last word `...`, where it ends or goes on with a blank.
abbrev pub goes_on : List ℕ → List ℕ → Bool
goes_on [] [] = true
goes_on [] (g ∷ got) = false
goes_on (b ∷ expected) [] = is_blank b && is_dots expected
goes_on (b ∷ expected) (g ∷ got) = if is_blank b && is_dots expected then is_blank g else ((g == b) && goes_on expected got)

-- `...` alone expects any answer, `TEXT ...` one whose front part is TEXT, and another text itself
abbrev pub is_answer : List ℕ → List ℕ → Bool
is_answer expected got = if is_dots expected then true else goes_on expected got

pub record Expectation : Type 0 where
  -- the number of its line
  pub number : ℕ
  -- None where nothing is expected of a policy that is refused, whose `policy` line has this number
  pub expected : Option (List ℕ)
  -- the answer of the last command before it, if there is one
  pub got : Option (List ℕ)

abbrev pub holds_by : Option (List ℕ) → Option (List ℕ) → Bool
holds_by (Some expected) (Some got) = is_answer expected got
holds_by (Some expected) None = false
holds_by None got = false

abbrev pub holds : Expectation → Bool
holds e = holds_by e.expected e.got

-- ---- events

-- what became of a command
pub data Event : Type 0 where
  -- the number of its line, and its answer
  answer_of : ℕ → List ℕ → Event
  compared : Expectation → Event

-- the last answer before a place
pub data Last : Type 0 where
  nothing : Last
  answer : List ℕ → Last
  -- a policy was refused directly before, whose `policy` line has this number
  refusal : ℕ → List ℕ → Last

abbrev pub text_of : Last → Option (List ℕ)
text_of nothing = None
text_of (answer text) = Some text
text_of (refusal number text) = Some text

abbrev pub last_of : ℕ → List ℕ → Bool → Last
last_of number text refused = if refused then refusal number text else answer text

-- an expectation was compared with it
abbrev pub once_compared : Last → Last
once_compared nothing = nothing
once_compared (answer text) = answer text
once_compared (refusal number text) = answer text

-- a refused policy that isn't followed by an `expect` is an expectation that doesn't hold
abbrev pub unexpected : Last → List Event
unexpected nothing = []
unexpected (answer text) = []
unexpected (refusal number text) = compared (record { number = number; expected = None; got = Some text }) ∷ []

-- the events of commands, and at their end those that the last answer makes
abbrev pub events_to : (Last → List Event) → StateLimit → History → Last → List TestCommand → List Event
events_to ending limit history last [] = ending last
events_to ending limit history last (ask number c ∷ commands) =
    let p = answered limit history c in
    unexpected last
    ++ answer_of number p.text ∷ events_to ending limit p.history (last_of number p.text (refuses limit c)) commands
events_to ending limit history last (expect number text ∷ commands) =
    compared (record { number = number; expected = Some text; got = text_of last })
    ∷ events_to ending limit history (once_compared last) commands

-- the events of a test that goes to its end
abbrev pub events : StateLimit → History → List TestCommand → List Event
events limit history commands = events_to unexpected limit history nothing commands

-- The events of the first commands of a test: after them it isn't known yet whether a refusal is expected.
abbrev pub first_events : StateLimit → History → List TestCommand → List Event
first_events limit history commands = events_to (λ last. []) limit history nothing commands

abbrev pub expectations_in : List Event → List Expectation
expectations_in [] = []
expectations_in (answer_of number text ∷ es) = expectations_in es
expectations_in (compared e ∷ es) = e ∷ expectations_in es

-- the expectations of a test that goes to its end
abbrev pub expectations : StateLimit → History → List TestCommand → List Expectation
expectations limit history commands = expectations_in (events limit history commands)
