-- The commands of each language, by their forms: words that fit a form are a command.
use Rattle.std.proofs.Common.{◌≡◌, ℕ, false, List, [], ◌∷◌, codes, Option, Some, None, refl, sym}
use Rattle.std.specs.Option.{is_none}
use Rattle.std.proofs.lemmas.Bool.{false≢true}
use Rattle.names.specs.Permissions.{perms_of}
use Rattle.names.specs.declared.permissions.Perms.{Perms}
use Rattle.script_notes.specs.Forms.{change_forms}
use Rattle.script_notes.specs.Forms.{step_forms, run_forms, test_forms}
use Rattle.script_notes.specs.ScriptLines.{says}
use Rattle.script_notes.specs.declared.line.Says.{Says}
use Rattle.script_notes.specs.declared.line.Says.TheVariants.{OpensPolicy, Command, NoCommand}
use Rattle.script_notes.proofs.SaidForms.{Cases, no_more, ◌also◌, one_word, two_words, three_words, four_words, four_with_perms}
use Rattle.script_notes.proofs.SaidForms.{two_with_session, two_with_number, three_with_number, five_words}
use Rattle.test_script.specs.TestScript.{Asked, Question, asked_question, explain, judge, question_by, run_kind, words_kind}
use Rattle.trace_script.specs.Script.{LineKind, LineOf, ignored, opens_policy, command, no_command}
use Rattle.trace_script.specs.Script.{kind_of_open, line_kind}
use Rattle.trace_steps.specs.StepScript.{StepCommand, kind_of_begin, kind_of_cells, kind_of_session, kind_of_set, number_of}
use Rattle.trace_steps.specs.StepScript.{own_kind, session_of, step_kind, whole_kind}

taken : Command ≡ NoCommand → ⊥
taken e = cc

opened : OpensPolicy ≡ NoCommand → ⊥
opened e = cc

-- ---- `run`

abbrev pub in_run : List (List ℕ) → Says
in_run words = says (line_kind words)

run_open : (a b : List ℕ) (ask : Option Perms) → is_none ask ≡ false → says (kind_of_open a b ask) ≡ NoCommand → ⊥
run_open a b None e h = absurd (false≢true (sym e))
run_open a b (Some ask) e h = taken h

pub run_cases : Cases in_run run_forms
run_cases =
    one_word in_run (codes "policy") refl opened
    also two_words in_run (codes "drop PROFILE") refl (λ a. taken)
    also two_words in_run (codes "mkdir PATH") refl (λ a. taken)
    also two_words in_run (codes "create PATH") refl (λ a. taken)
    also three_words in_run (codes "symlink TEXT PATH") refl (λ a b. taken)
    also three_words in_run (codes "link OLD NEW") refl (λ a b. taken)
    also two_words in_run (codes "unlink PATH") refl (λ a. taken)
    also two_words in_run (codes "rmdir PATH") refl (λ a. taken)
    also three_words in_run (codes "rename OLD NEW") refl (λ a b. taken)
    also four_with_perms in_run (codes "open PROFILE PATH PERMS") refl refl (λ a b c. run_open a b (perms_of c))
    also four_words in_run (codes "judged-link PROFILE OLD NEW") refl (λ a b c. taken)
    also no_more

-- ---- `steps`

abbrev pub in_steps : List (List ℕ) → Says
in_steps words = says (step_kind words)

-- what a line says, by what it says in `run`
abbrev pub step_by : List (List ℕ) → LineKind → LineOf StepCommand
step_by words kind = elim kind [
  | ignored ↦ ignored
  | opens_policy ↦ opens_policy
  | command c ↦ whole_kind c
  | no_command ↦ own_kind words
]

step_open : (a b : List ℕ) (words : List (List ℕ)) (ask : Option Perms) → is_none ask ≡ false →
    says (step_by words (kind_of_open a b ask)) ≡ NoCommand → ⊥
step_open a b words None e h = absurd (false≢true (sym e))
step_open a b words (Some ask) e h = taken h

step_begin : (session : Option ℕ) (b c : List ℕ) (ask : Option Perms) → is_none session ≡ false → is_none ask ≡ false →
    says (kind_of_begin session b c ask) ≡ NoCommand → ⊥
step_begin None b c ask e f h = absurd (false≢true (sym e))
step_begin (Some session) b c None e f h = absurd (false≢true (sym f))
step_begin (Some session) b c (Some ask) e f h = taken h

step_session : (word : List ℕ) → ((session : ℕ) → says (kind_of_session word (Some session)) ≡ NoCommand → ⊥) → (session : Option ℕ) →
    is_none session ≡ false → says (kind_of_session word session) ≡ NoCommand → ⊥
step_session word t None e h = absurd (false≢true (sym e))
step_session word t (Some session) e h = t session h

step_cells : (session most : Option ℕ) → is_none session ≡ false → says (kind_of_cells session most) ≡ NoCommand → most ≡ None
step_cells None most e h = absurd (false≢true (sym e))
step_cells (Some session) None e h = refl
step_cells (Some session) (Some most) e h = absurd (taken h)

step_set : (most : Option ℕ) → says (kind_of_set most) ≡ NoCommand → most ≡ None
step_set None h = refl
step_set (Some most) h = absurd (taken h)

pub step_cases : Cases in_steps step_forms
step_cases =
    one_word in_steps (codes "policy") refl opened
    also two_words in_steps (codes "drop PROFILE") refl (λ a. taken)
    also two_words in_steps (codes "mkdir PATH") refl (λ a. taken)
    also two_words in_steps (codes "create PATH") refl (λ a. taken)
    also three_words in_steps (codes "symlink TEXT PATH") refl (λ a b. taken)
    also three_words in_steps (codes "link OLD NEW") refl (λ a b. taken)
    also two_words in_steps (codes "unlink PATH") refl (λ a. taken)
    also two_words in_steps (codes "rmdir PATH") refl (λ a. taken)
    also three_words in_steps (codes "rename OLD NEW") refl (λ a b. taken)
    also four_with_perms in_steps (codes "open PROFILE PATH PERMS") refl refl
    (λ a b c. step_open a b (codes "open" ∷ a ∷ b ∷ c ∷ []) (perms_of c))
    also five_words in_steps (codes "begin SESSION PROFILE PATH PERMS") refl refl refl
    (λ a b c d. step_begin (session_of a) b c (perms_of d))
    also two_with_session in_steps (codes "policy-read SESSION") refl refl
    (λ a. step_session (codes "policy-read") (λ s. taken) (session_of a))
    also two_with_session in_steps (codes "count SESSION") refl refl (λ a. step_session (codes "count") (λ s. taken) (session_of a))
    also three_with_number in_steps (codes "cell SESSION NUMBER") refl refl (λ a b. step_cells (session_of a) (number_of b))
    also two_with_session in_steps (codes "check SESSION") refl refl (λ a. step_session (codes "check") (λ s. taken) (session_of a))
    also two_with_session in_steps (codes "go SESSION") refl refl (λ a. step_session (codes "go") (λ s. taken) (session_of a))
    also two_with_number in_steps (codes "set NUMBER") refl (λ a. step_set (number_of a))
    also one_word in_steps (codes "close") refl taken
    also no_more

-- after `keep`
abbrev pub after_keep_says : List (List ℕ) → Says
after_keep_says words = says (step_kind (codes "keep" ∷ words))

pub keep_cases : Cases after_keep_says change_forms
keep_cases =
    two_words after_keep_says (codes "mkdir PATH") refl (λ a. taken)
    also two_words after_keep_says (codes "create PATH") refl (λ a. taken)
    also three_words after_keep_says (codes "symlink TEXT PATH") refl (λ a b. taken)
    also three_words after_keep_says (codes "link OLD NEW") refl (λ a b. taken)
    also two_words after_keep_says (codes "unlink PATH") refl (λ a. taken)
    also two_words after_keep_says (codes "rmdir PATH") refl (λ a. taken)
    also three_words after_keep_says (codes "rename OLD NEW") refl (λ a b. taken)
    also no_more

-- ---- `test`

abbrev pub in_test : ℕ → List (List ℕ) → Says
in_test number words = says (words_kind number words)

test_open : (number : ℕ) (a b : List ℕ) (ask : Option Perms) → is_none ask ≡ false →
    says (run_kind number (kind_of_open a b ask)) ≡ NoCommand → ⊥
test_open number a b None e h = absurd (false≢true (sym e))
test_open number a b (Some ask) e h = taken h

test_question : (number : ℕ) (asked : Question → Asked) (a b : List ℕ) (ask : Option Perms) → is_none ask ≡ false →
    says (question_by number asked (asked_question a b ask)) ≡ NoCommand → ⊥
test_question number asked a b None e h = absurd (false≢true (sym e))
test_question number asked a b (Some ask) e h = taken h

module _ (number : ℕ) where
  abbrev kind : List (List ℕ) → Says
  kind = in_test number

  pub test_cases : Cases kind test_forms
  test_cases =
      four_with_perms kind (codes "judge PROFILE NAME PERMS") refl refl (λ a b c. test_question number judge a b (perms_of c))
      also four_with_perms kind (codes "explain PROFILE NAME PERMS") refl refl (λ a b c. test_question number explain a b (perms_of c))
      also one_word kind (codes "policy") refl opened
      also two_words kind (codes "drop PROFILE") refl (λ a. taken)
      also two_words kind (codes "mkdir PATH") refl (λ a. taken)
      also two_words kind (codes "create PATH") refl (λ a. taken)
      also three_words kind (codes "symlink TEXT PATH") refl (λ a b. taken)
      also three_words kind (codes "link OLD NEW") refl (λ a b. taken)
      also two_words kind (codes "unlink PATH") refl (λ a. taken)
      also two_words kind (codes "rmdir PATH") refl (λ a. taken)
      also three_words kind (codes "rename OLD NEW") refl (λ a b. taken)
      also four_with_perms kind (codes "open PROFILE PATH PERMS") refl refl (λ a b c. test_open number a b (perms_of c))
      also four_words kind (codes "judged-link PROFILE OLD NEW") refl (λ a b c. taken)
      also no_more
