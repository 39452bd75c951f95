-- What a script of events says: the lines of a script of commands, except judged links, and lines for single events. The grammar is
-- our own.
use Rattle.std.specs.Prelude.{ℕ, ◌+◌, ◌-◌, ◌^◌, ◌==◌, ◌&&◌, not, nat_lt, List, [], ◌∷◌, length, Option, Some, None, codes, bytes_eq}
use Rattle.std.specs.Prelude.{if◌then◌else◌}
use Rattle.std.specs.Char.{is_ascii_digit}
use Rattle.std.specs.List.{list_all}
use Rattle.std.specs.Str.Parse.{digits_value}
use Rattle.names.specs.Ascii as ascii
use Rattle.names.specs.declared.permissions.Perms.{Perms}
use Rattle.names.specs.Permissions.{perms_of}
use Rattle.event_machine.specs.Machine.{Call, Event}
use Rattle.event_machine.specs.Machine.Event.{begin, read_policy, read_count, check_count}
use Rattle.trace_script.specs.Script.{ChangeWords, Command, publish, remove, alter, judge_open, judge_link, LineKind, LineOf, ignored}
use Rattle.trace_script.specs.Script.{opens_policy, command, no_command, line_kind, Grammar, ScriptOf, outside, script_by, lines_of}
use Rattle.trace_script.specs.Script.{words_of}

pub data StepCommand : Type 0 where
  -- the text of a profile, which is published under the profile's name
  publish_text : List ℕ → StepCommand
  -- the name of a profile that is removed
  remove_profile : List ℕ → StepCommand
  -- a change of the tree, done whole
  alter_whole : ChangeWords → StepCommand
  -- an open, done whole
  open_whole : Call → StepCommand
  -- one event of a session
  single : Event → StepCommand
  -- a session reads at most this many cells
  cells_read : ℕ → ℕ → StepCommand
  -- the rest of a session's call
  finish : ℕ → StepCommand
  -- a change of the tree is opened
  keep : ChangeWords → StepCommand
  -- the keeper sets at most this many cells
  cells_set : ℕ → StepCommand
  -- the rest of the open change
  close : StepCommand

-- a line of a script of commands; a judged link isn't one here
abbrev pub whole_kind : Command → LineOf StepCommand
whole_kind (publish text) = command (publish_text text)
whole_kind (remove name) = command (remove_profile name)
whole_kind (alter words) = command (alter_whole words)
whole_kind (judge_open profile path ask) = command (open_whole (record { profile = profile; path = path; ask = ask }))
whole_kind (judge_link profile old new) = no_command

-- a session, as one digit from 1 to 9
abbrev pub session_of : List ℕ → Option ℕ
session_of (digit ∷ []) = if nat_lt ascii.digit_0 digit && nat_lt digit (ascii.digit_0 + 10) then Some (digit - ascii.digit_0) else None
session_of _ = None

-- a number, in decimal digits alone, that fits 64 bits
abbrev pub number_of : List ℕ → Option ℕ
number_of word =
    if not (length word == 0) && (list_all is_ascii_digit word && nat_lt (digits_value 10 word) (2 ^ 64)) then
    Some (digits_value 10 word) else None

-- `policy-read S`, `count S`, `check S`, `go S`
abbrev pub kind_of_session : List ℕ → Option ℕ → LineOf StepCommand
kind_of_session word None = no_command
kind_of_session word (Some s) =
    if bytes_eq (codes "policy-read") word then command (single (read_policy s))
    else (if bytes_eq (codes "count") word then command (single (read_count s))
    else (if bytes_eq (codes "check") word then command (single (check_count s))
    else (if bytes_eq (codes "go") word then command (finish s)
    else no_command)))

-- `set N`
abbrev pub kind_of_set : Option ℕ → LineOf StepCommand
kind_of_set None = no_command
kind_of_set (Some most) = command (cells_set most)

-- `cell S N`
abbrev pub kind_of_cells : Option ℕ → Option ℕ → LineOf StepCommand
kind_of_cells (Some s) (Some most) = command (cells_read s most)
kind_of_cells _ _ = no_command

-- `begin S PROFILE PATH PERMS`
abbrev pub kind_of_begin : Option ℕ → List ℕ → List ℕ → Option Perms → LineOf StepCommand
kind_of_begin (Some s) profile path (Some ask) = command (single (begin s (record { profile = profile; path = path; ask = ask })))
kind_of_begin _ profile path _ = no_command

-- `keep` and a line that changes the tree
abbrev pub kind_of_keep : LineKind → LineOf StepCommand
kind_of_keep (command (alter words)) = command (keep words)
kind_of_keep _ = no_command

abbrev pub own_kind_of_one : List ℕ → LineOf StepCommand
own_kind_of_one word = if bytes_eq (codes "close") word then command close else no_command

abbrev pub own_kind_of_two : List ℕ → List ℕ → LineOf StepCommand
own_kind_of_two word first = if bytes_eq (codes "set") word then kind_of_set (number_of first) else kind_of_session word (session_of first)

abbrev pub own_kind_of_three : List ℕ → List ℕ → List ℕ → LineOf StepCommand
own_kind_of_three word first second =
    if bytes_eq (codes "cell") word then kind_of_cells (session_of first) (number_of second) else no_command

abbrev pub own_kind_of_five : List ℕ → List ℕ → List ℕ → List ℕ → List ℕ → LineOf StepCommand
own_kind_of_five word first profile path letters =
    if bytes_eq (codes "begin") word then kind_of_begin (session_of first) profile path (perms_of letters) else no_command

abbrev pub own_kind_of_words : List (List ℕ) → LineOf StepCommand
own_kind_of_words (a ∷ []) = own_kind_of_one a
own_kind_of_words (a ∷ b ∷ []) = own_kind_of_two a b
own_kind_of_words (a ∷ b ∷ c ∷ []) = own_kind_of_three a b c
own_kind_of_words (a ∷ b ∷ c ∷ d ∷ e ∷ []) = own_kind_of_five a b c d e
own_kind_of_words _ = no_command

-- a line that isn't one of a script of commands
abbrev pub own_kind : List (List ℕ) → LineOf StepCommand
own_kind [] = no_command
own_kind (word ∷ words) = if bytes_eq (codes "keep") word then kind_of_keep (line_kind words) else own_kind_of_words (word ∷ words)

abbrev pub step_kind : List (List ℕ) → LineOf StepCommand
step_kind words = elim (line_kind words) [
  | ignored ↦ ignored
  | opens_policy ↦ opens_policy
  | command c ↦ whole_kind c
  | no_command ↦ own_kind words
]

abbrev pub step_grammar : Grammar StepCommand
step_grammar = record { kind = λ number line. step_kind (words_of line); policy = λ start text. publish_text text }

abbrev pub step_script : List ℕ → ScriptOf StepCommand
step_script text = script_by step_grammar outside 0 (lines_of text)
