-- How commands of scripts are written, which word isn't understood of a line that is none, and why. The sentences are our own.
use Rattle.std.specs.Prelude.{ℕ, zero, suc, ◌+◌, ◌-◌, ◌==◌, Bool, false, List, [], ◌∷◌, ◌++◌, ◌&&◌, nat_eq, nat_lt}
use Rattle.std.specs.Prelude.{Option, Some, None, bytes_eq, codes, drop, find, if◌then◌else◌, length, slice_get}
use Rattle.std.specs.Option.{is_none}
use Rattle.std.specs.List.{before_first, ends_with, list_any, position_or_len, prefix_len}
use Rattle.names.specs.Permissions.{perms_of}
use Rattle.script_notes.specs.declared.line.Script.{Script}
use Rattle.script_notes.specs.declared.line.Script.TheVariants.{Run, Steps, Test}
use Rattle.trace_script.specs.Script.{is_blank, words_of}
use Rattle.test_script.specs.TestScript.{first_word, quote, quoted_words}
use Rattle.trace_steps.specs.StepScript.{session_of}

-- A form is a command's word and, for each word after it, what it is there for.
abbrev pub run_forms : List (List ℕ)
run_forms =
    codes "policy" ∷ codes "drop PROFILE" ∷ codes "mkdir PATH" ∷ codes "create PATH" ∷ codes "symlink TEXT PATH"
    ∷ codes "link OLD NEW" ∷ codes "unlink PATH" ∷ codes "rmdir PATH" ∷ codes "rename OLD NEW"
    ∷ codes "open PROFILE PATH PERMS" ∷ codes "judged-link PROFILE OLD NEW" ∷ []

-- The changes of the tree, which `keep` takes, too.
abbrev pub change_forms : List (List ℕ)
change_forms =
    codes "mkdir PATH" ∷ codes "create PATH" ∷ codes "symlink TEXT PATH" ∷ codes "link OLD NEW" ∷ codes "unlink PATH"
    ∷ codes "rmdir PATH" ∷ codes "rename OLD NEW" ∷ []

-- All of `steps`, except `keep`, after which a change of the tree follows.
abbrev pub step_forms : List (List ℕ)
step_forms =
    codes "policy" ∷ codes "drop PROFILE" ∷ codes "mkdir PATH" ∷ codes "create PATH" ∷ codes "symlink TEXT PATH"
    ∷ codes "link OLD NEW" ∷ codes "unlink PATH" ∷ codes "rmdir PATH" ∷ codes "rename OLD NEW"
    ∷ codes "open PROFILE PATH PERMS" ∷ codes "begin SESSION PROFILE PATH PERMS" ∷ codes "policy-read SESSION"
    ∷ codes "count SESSION" ∷ codes "cell SESSION NUMBER" ∷ codes "check SESSION" ∷ codes "go SESSION"
    ∷ codes "set NUMBER" ∷ codes "close" ∷ []

abbrev pub test_forms : List (List ℕ)
test_forms = codes "judge PROFILE NAME PERMS" ∷ codes "explain PROFILE NAME PERMS" ∷ run_forms

-- the form whose first word is this
abbrev pub form_of : List (List ℕ) → List ℕ → Option (List ℕ)
form_of forms word = find (λ form. bytes_eq (before_first is_blank form) word) forms

-- a word of a line, counted from 0, and what is said of it
pub record Misfit : Type 0 where
  pub word : ℕ
  pub said : List ℕ

abbrev pub misfit_at : ℕ → List ℕ → Misfit
misfit_at word said = record { word = word; said = said }

abbrev pub asks_perms : List ℕ → Bool
asks_perms form = ends_with nat_eq form (codes "PERMS")

abbrev pub is_session_word : Option (List ℕ) → Bool
is_session_word None = false
is_session_word (Some word) = bytes_eq (codes "SESSION") word

abbrev pub is_no_session : Option (List ℕ) → Bool
is_no_session None = false
is_no_session (Some word) = is_none (session_of word)

abbrev pub is_no_perms : Option (List ℕ) → Bool
is_no_perms None = false
is_no_perms (Some word) = is_none (perms_of word)

-- Of as many words as the form has, where only the last can be wrong: what it isn't.
abbrev pub odd_last : List ℕ → List (List ℕ) → Misfit
odd_last form words =
    if asks_perms form && is_no_perms (slice_get words (length words - 1)) then
    misfit_at (length words - 1) (codes "the last word is no permissions: " ++ form)
    else misfit_at (length words - 1) (codes "the last word is no number below 2^64: " ++ form)

-- Of as many words as the form has: the second, if it should be a session and is none, or else the last.
abbrev pub odd_word : List ℕ → List (List ℕ) → List (List ℕ) → Misfit
odd_word form of_form words =
    if is_session_word (slice_get of_form 1) && is_no_session (slice_get words 1) then
    misfit_at 1 (codes "the second word is no session, which is a digit from 1 to 9: " ++ form)
    else odd_last form words

-- Why words whose first is that of a form aren't of that form, by the words of the form.
abbrev pub misfit_of : List ℕ → List (List ℕ) → List (List ℕ) → Misfit
misfit_of form of_form words =
    if nat_lt (length words) (length of_form) then misfit_at 0 (codes "too few words: " ++ form)
    else if nat_lt (length of_form) (length words) then misfit_at (length of_form) (codes "too many words: " ++ form)
    else odd_word form of_form words

-- by the form that begins with the first word, if there is one
abbrev pub why_form : List ℕ → Option (List ℕ) → List (List ℕ) → Misfit
why_form unknown None words = misfit_at 0 unknown
why_form unknown (Some form) words = misfit_of form (words_of form) words

-- what is said where no form begins with the first word
abbrev pub no_command : List ℕ
no_command = codes "no command begins with this word"

-- and what after `keep`
abbrev pub no_change : List ℕ
no_change = codes "no change of the tree begins with this word"

abbrev pub why_words : List ℕ → List (List ℕ) → List (List ℕ) → Misfit
why_words unknown forms [] = misfit_at 0 []
why_words unknown forms (word ∷ words) = why_form unknown (form_of forms word) (word ∷ words)

-- ---- `steps`

-- the same of the word after it
abbrev pub next_word : Misfit → Misfit
next_word m = misfit_at (m.word + 1) m.said

-- why the words after `keep` are no change of the tree
abbrev pub why_keep : List (List ℕ) → Misfit
why_keep words =
    if length words == 0 then misfit_at 0 (codes "too few words: keep CHANGE..") else next_word (why_words no_change change_forms words)

-- the words after `keep`, if that is the first
abbrev pub after_keep : List (List ℕ) → Option (List (List ℕ))
after_keep [] = None
after_keep (word ∷ words) = if bytes_eq (codes "keep") word then Some words else None

abbrev pub why_step_by : Option (List (List ℕ)) → List (List ℕ) → Misfit
why_step_by None words = why_words no_command step_forms words
why_step_by (Some kept) words = why_keep kept

abbrev pub why_step : List (List ℕ) → Misfit
why_step words = why_step_by (after_keep words) words

-- ---- `test`

-- the words of a line of `test`, unless their quotes aren't understood
abbrev pub why_quoted : Option (List (List ℕ)) → Misfit
why_quoted None = misfit_at 0 (codes "a quote isn't closed, or what follows it, or a backslash in it, isn't understood")
why_quoted (Some words) = why_words no_command test_forms words

abbrev pub has_quote : List ℕ → Bool
has_quote line = list_any (λ b. b == quote) line

-- Words are found in a line by the blanks between them. In a line with quotes, which may have blanks within, the first is shown.
abbrev pub found_by_blanks : List ℕ → Misfit → Misfit
found_by_blanks line m = misfit_at (if has_quote line then 0 else m.word) m.said

-- A line that expects an answer begins with `expect` without quotes, and is no command if no answer follows.
abbrev pub why_test : List ℕ → Misfit
why_test line =
    if bytes_eq (codes "expect") (first_word line) then misfit_at 0 (codes "too few words: expect ANSWER..")
    else found_by_blanks line (why_quoted (quoted_words line))

-- ---- the line

abbrev pub why : Script → List ℕ → Misfit
why Run line = why_words no_command run_forms (words_of line)
why Steps line = why_step (words_of line)
why Test line = why_test line

-- the line from its next word on, from a word of it
abbrev pub after_word : List ℕ → List ℕ
after_word line = drop (prefix_len is_blank (drop (position_or_len is_blank line) line)) (drop (position_or_len is_blank line) line)

abbrev pub after_words : ℕ → List ℕ → List ℕ
after_words zero line = line
after_words (suc n) line = after_words n (after_word line)

-- the place of a word of a line, which may begin with blanks
abbrev pub word_place : ℕ → List ℕ → ℕ
word_place word line = length line - length (after_words word (drop (prefix_len is_blank line) line))
