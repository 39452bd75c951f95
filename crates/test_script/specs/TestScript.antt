-- What a test says: the lines of a script of `run`, in which words may be in quotes, lines that ask what rules say about a name,
-- and lines that expect an answer. The grammar is our own.
use Rattle.std.specs.Prelude.{ℕ, ◌+◌, ◌-◌, ◌*◌, ◌==◌, ◌||◌, Bool, List, [], ◌∷◌, ◌++◌, length, take, drop, codes, Option, Some, None}
use Rattle.std.specs.Prelude.{bytes_eq, nat_le, ◌&&◌, option_map, if◌then◌else◌}
use Rattle.std.specs.List.{before_first, position_or_len, prefix_len, suffix_len}
use Rattle.names.specs.Ascii as ascii
use Rattle.names.specs.declared.permissions.Perms.{Perms}
use Rattle.names.specs.Permissions.{perms_of}
use Rattle.trace_script.specs.Script.{Command, publish, LineKind, LineOf, ignored, opens_policy, command, no_command, is_blank, is_comment}
use Rattle.trace_script.specs.Script.{kind_of_words, Grammar, ScriptOf, outside, script_by, lines_of}

-- ---- words in quotes

abbrev pub quote : ℕ
quote = ascii.quote

-- what a byte in quotes does
pub data InQuotes : Type 0 where
  closes : InQuotes
  escapes : InQuotes
  stands : InQuotes

abbrev pub in_quotes : ℕ → InQuotes
in_quotes b = if b == ascii.quote then closes else (if b == ascii.backslash then escapes else stands)

-- what a byte says after a backslash: `\"`, `\\` and `\n` stand for a byte, and two digits follow `\x`
pub data EscapeKind : Type 0 where
  begins_hex : EscapeKind
  is_byte : ℕ → EscapeKind
  is_unknown : EscapeKind

abbrev pub letter_n : ℕ
letter_n = 110

abbrev pub escape : ℕ → EscapeKind
escape b =
    if b == ascii.letter_x then begins_hex
    else (if b == ascii.quote then is_byte ascii.quote
    else (if b == ascii.backslash then is_byte ascii.backslash
    else (if b == letter_n then is_byte ascii.line_feed
    else is_unknown)))

-- a digit of base 16: 0 to 9, A to F, or a to f
abbrev pub hex_digit : ℕ → Option ℕ
hex_digit b =
    if nat_le 48 b && nat_le b 57 then Some (b - 48)
    else (if nat_le 65 b && nat_le b 70 then Some (b - 55)
    else (if nat_le 97 b && nat_le b 102 then Some (b - 87)
    else None))

-- where in a line reading is
pub data Place : Type 0 where
  between : Place
  -- in a word without quotes, whose bytes so far are these
  bare : List ℕ → Place
  -- after the quote that a word began with
  quoted : List ℕ → Place
  -- after a backslash in quotes
  escaped : List ℕ → Place
  -- after `\x` in quotes
  hex : List ℕ → Place
  -- and after the first of its two digits, which has this value
  hex_low : List ℕ → ℕ → Place
  -- directly after a closing quote
  closed : Place

abbrev pub with_word : List ℕ → Option (List (List ℕ)) → Option (List (List ℕ))
with_word word words = option_map (λ more. word ∷ more) words

-- The words of a line, if it has no open quote, only escapes that are known, and nothing directly after a closing quote. A word
-- that begins with a quote goes to the next one that isn't escaped; quotes and backslashes within any other word are bytes of it.
abbrev pub words_from : Place → List ℕ → Option (List (List ℕ))
words_from between [] = Some []
words_from (bare word) [] = Some (word ∷ [])
words_from (quoted word) [] = None
words_from (escaped word) [] = None
words_from (hex word) [] = None
words_from (hex_low word high) [] = None
words_from closed [] = Some []
words_from between (b ∷ line) =
    if is_blank b then words_from between line
    else (if b == quote then words_from (quoted []) line else words_from (bare (b ∷ [])) line)
words_from (bare word) (b ∷ line) =
    if is_blank b then with_word word (words_from between line) else words_from (bare (word ++ b ∷ [])) line
words_from (quoted word) (b ∷ line) = elim (in_quotes b) [
  | closes ↦ with_word word (words_from closed line)
  | escapes ↦ words_from (escaped word) line
  | stands ↦ words_from (quoted (word ++ b ∷ [])) line
]
words_from (escaped word) (b ∷ line) = elim (escape b) [
  | begins_hex ↦ words_from (hex word) line
  | is_byte byte ↦ words_from (quoted (word ++ byte ∷ [])) line
  | is_unknown ↦ None
]
words_from (hex word) (b ∷ line) = elim (hex_digit b) [ None ↦ None | Some high ↦ words_from (hex_low word high) line ]
words_from (hex_low word high) (b ∷ line) =
    elim (hex_digit b) [ None ↦ None | Some low ↦ words_from (quoted (word ++ (16 * high + low) ∷ [])) line ]
words_from closed (b ∷ line) = if is_blank b then words_from between line else None

abbrev pub quoted_words : List ℕ → Option (List (List ℕ))
quoted_words line = words_from between line

-- ---- lines

-- from the first byte on that isn't a blank
abbrev pub from_word : List ℕ → List ℕ
from_word line = drop (prefix_len is_blank line) line

-- up to the last byte that isn't a blank
abbrev pub without_end : List ℕ → List ℕ
without_end line = take (length line - suffix_len is_blank line) line

-- the first word as it is written, and the text after it, without the blanks at its ends
abbrev pub first_word : List ℕ → List ℕ
first_word line = before_first is_blank (from_word line)

abbrev pub behind_first : List ℕ → List ℕ
behind_first line = without_end (from_word (drop (position_or_len is_blank (from_word line)) (from_word line)))

-- ---- commands

-- a question about a name: the profile's name, the name, and the permissions that are asked for it
pub record Question : Type 0 where
  pub profile : List ℕ
  pub name : List ℕ
  pub ask : Perms

-- a command that is answered
pub data Asked : Type 0 where
  run : Command → Asked
  -- the verdict of the rules that are published under a name
  judge : Question → Asked
  -- the verdict, and the reason for each permission
  explain : Question → Asked

pub data TestCommand : Type 0 where
  -- the number of the line, of a policy that of its first line, and the command
  ask : ℕ → Asked → TestCommand
  -- the number of the line, and the answer that it expects
  expect : ℕ → List ℕ → TestCommand

-- an expectation of a text, which must not be empty
abbrev pub expect_kind : ℕ → List ℕ → LineOf TestCommand
expect_kind number [] = no_command
expect_kind number (b ∷ text) = command (expect number (b ∷ text))

-- what a line of `run` is here
abbrev pub run_kind : ℕ → LineKind → LineOf TestCommand
run_kind number ignored = ignored
run_kind number opens_policy = opens_policy
run_kind number (command c) = command (ask number (run c))
run_kind number no_command = no_command

abbrev pub asked_question : List ℕ → List ℕ → Option Perms → Option Question
asked_question profile name None = None
asked_question profile name (Some perms) = Some (record { profile = profile; name = name; ask = perms })

-- `PROFILE NAME PERMS`
abbrev pub question_of : List (List ℕ) → Option Question
question_of (profile ∷ name ∷ letters ∷ []) = asked_question profile name (perms_of letters)
question_of _ = None

abbrev pub question_by : ℕ → (Question → Asked) → Option Question → LineOf TestCommand
question_by number asked None = no_command
question_by number asked (Some q) = command (ask number (asked q))

abbrev pub question_kind : ℕ → (Question → Asked) → List (List ℕ) → LineOf TestCommand
question_kind number asked words = question_by number asked (question_of words)

-- `judge PROFILE NAME PERMS`, `explain PROFILE NAME PERMS`, or a line of `run`
abbrev pub first_kind : ℕ → List ℕ → List (List ℕ) → LineKind → LineOf TestCommand
first_kind number word rest kind =
    if bytes_eq (codes "judge") word then question_kind number judge rest
    else (if bytes_eq (codes "explain") word then question_kind number explain rest
    else run_kind number kind)

abbrev pub words_kind : ℕ → List (List ℕ) → LineOf TestCommand
words_kind number [] = no_command
words_kind number (word ∷ words) = first_kind number word words (kind_of_words (word ∷ words))

abbrev pub quoted_kind : ℕ → Option (List (List ℕ)) → LineOf TestCommand
quoted_kind number None = no_command
quoted_kind number (Some words) = words_kind number words

-- an empty line, or a comment, by its first word
abbrev pub is_passed : List ℕ → Bool
is_passed word = (length word == 0) || is_comment word

-- the line of this number
abbrev pub test_kind : ℕ → List ℕ → LineOf TestCommand
test_kind number line =
    if is_passed (first_word line) then ignored
    else (if bytes_eq (codes "expect") (first_word line) then expect_kind number (behind_first line)
    else quoted_kind number (quoted_words line))

abbrev pub test_grammar : Grammar TestCommand
test_grammar = record { kind = test_kind; policy = λ start text. ask start (run (publish text)) }

abbrev pub test_script : List ℕ → ScriptOf TestCommand
test_script text = script_by test_grammar outside 0 (lines_of text)
