-- What laws say of tests.
use Rattle.std.specs.Prelude.{◌≡◌, ◌≢◌, ℕ, ◌+◌, ◌&&◌, ◌||◌, Bool, false, List, [], ◌∷◌, All, codes, bytes_eq}
use Rattle.glob_automaton.specs.Automata.{StateLimit}
use Rattle.mediation.specs.History.{History}
use Rattle.trace_script.specs.RunOutput.{Printed}
use Rattle.trace_script.specs.Script.{Command, is_blank, lines_of}
use Rattle.trace_test.specs.Expectations.{answered, is_dots, refuses_policy}
use Rattle.test_script.specs.TestScript.{Asked, TestCommand, ask, expect, first_word, quote}

-- a line without a quote, which asks and expects nothing
pub record IsPlainLine (line : List ℕ) : Type 0 where
  pub no_quote : All (λ b. b ≢ quote) line
  pub no_expectation : bytes_eq (codes "expect") (first_word line) ≡ false
  pub no_verdict : bytes_eq (codes "judge") (first_word line) ≡ false
  pub no_explanation : bytes_eq (codes "explain") (first_word line) ≡ false

abbrev pub IsPlain : List ℕ → Type 0
IsPlain text = All IsPlainLine (lines_of text)

-- the commands that are answered
abbrev pub asked_of : List TestCommand → List Asked
asked_of [] = []
asked_of (ask number c ∷ commands) = c ∷ asked_of commands
asked_of (expect number text ∷ commands) = asked_of commands

-- it ends with blanks and `...`
abbrev pub is_open : List ℕ → Bool
is_open [] = false
is_open (b ∷ text) = (is_blank b && is_dots text) || is_open text

-- it refuses no policy
abbrev pub IsTaken : StateLimit → List Command → Type 0
IsTaken limit commands = All (λ c. refuses_policy limit c ≡ false) commands

-- one line for each command, by what the commands before it have done
abbrev pub answer_lines : StateLimit → History → List Asked → List (List ℕ)
answer_lines limit history [] = []
answer_lines limit history (c ∷ cs) = (answered limit history c).text ∷ answer_lines limit (answered limit history c).history cs

-- each command with an expectation of its line, the lines of the script being counted from here
abbrev pub woven : ℕ → List Asked → List (List ℕ) → List TestCommand
woven number (c ∷ commands) (answer ∷ lines) = ask number c ∷ expect (number + 1) answer ∷ woven (number + 2) commands lines
woven number _ _ = []
