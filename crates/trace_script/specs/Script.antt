-- What a script says: its lines, their words, and the commands that they are. The grammar is our own.
use Rattle.std.specs.Prelude.{ℕ, ◌+◌, ◌==◌, ◌||◌, Bool, not, List, [], ◌∷◌, ◌++◌, filter, length, slice_index, codes, Option, Some, None}
use Rattle.std.specs.Prelude.{bytes_eq, if◌then◌else◌}
use Rattle.std.specs.List.{slice_split}
use Rattle.names.specs.Ascii as ascii
use Rattle.names.specs.declared.permissions.Perms.{Perms}
use Rattle.names.specs.Permissions.{perms_of}

abbrev pub line_feed : ℕ
line_feed = 10

-- adds a byte at the front of the first line
abbrev pub onto_first_line : ℕ → List (List ℕ) → List (List ℕ)
onto_first_line b [] = (b ∷ []) ∷ []
onto_first_line b (line ∷ lines) = (b ∷ line) ∷ lines

-- the lines of a text, without their line feeds; the last line may lack its line feed
abbrev pub lines_of : List ℕ → List (List ℕ)
lines_of [] = []
lines_of (b ∷ text) = if b == line_feed then [] ∷ lines_of text else onto_first_line b (lines_of text)

-- spaces and tabs separate words
abbrev pub is_blank : ℕ → Bool
is_blank b = (b == ascii.space) || (b == ascii.tab)

abbrev pub words_of : List ℕ → List (List ℕ)
words_of line = filter (λ word. not (length word == 0)) (slice_split is_blank line)

-- a change of the tree, by the words of its paths; a symbolic link's text goes before its path
pub data ChangeWords : Type 0 where
  mkdir : List ℕ → ChangeWords
  create : List ℕ → ChangeWords
  symlink : List ℕ → List ℕ → ChangeWords
  link : List ℕ → List ℕ → ChangeWords
  unlink : List ℕ → ChangeWords
  rmdir : List ℕ → ChangeWords
  rename : List ℕ → List ℕ → ChangeWords

pub data Command : Type 0 where
  -- the text of a profile, which is published under the profile's name
  publish : List ℕ → Command
  -- the name of a profile to remove
  remove : List ℕ → Command
  -- a change of the tree
  alter : ChangeWords → Command
  -- a profile, the path that is opened, and what is asked
  judge_open : List ℕ → List ℕ → Perms → Command
  -- a profile, the path of a file, and the path of a new entry for it
  judge_link : List ℕ → List ℕ → List ℕ → Command

-- what a line is, taken by itself, for any type of commands
pub data LineOf (C : Type 0) : Type 0 where
  -- an empty line, or a comment
  ignored : LineOf C
  -- `policy`: the lines from the next one on are a profile's text
  opens_policy : LineOf C
  command : C → LineOf C
  no_command : LineOf C

abbrev pub LineKind : Type 0
LineKind = LineOf Command

abbrev pub kind_of_one : List ℕ → LineKind
kind_of_one word = if bytes_eq (codes "policy") word then opens_policy else no_command

abbrev pub kind_of_two : List ℕ → List ℕ → LineKind
kind_of_two word first =
    if bytes_eq (codes "drop") word then command (remove first)
    else (if bytes_eq (codes "mkdir") word then command (alter (mkdir first))
    else (if bytes_eq (codes "create") word then command (alter (create first))
    else (if bytes_eq (codes "unlink") word then command (alter (unlink first))
    else (if bytes_eq (codes "rmdir") word then command (alter (rmdir first))
    else no_command))))

abbrev pub kind_of_three : List ℕ → List ℕ → List ℕ → LineKind
kind_of_three word first second =
    if bytes_eq (codes "symlink") word then command (alter (symlink first second))
    else (if bytes_eq (codes "link") word then command (alter (link first second))
    else (if bytes_eq (codes "rename") word then command (alter (rename first second))
    else no_command))

abbrev pub kind_of_open : List ℕ → List ℕ → Option Perms → LineKind
kind_of_open profile path None = no_command
kind_of_open profile path (Some ask) = command (judge_open profile path ask)

abbrev pub kind_of_four : List ℕ → List ℕ → List ℕ → List ℕ → LineKind
kind_of_four word first second third =
    if bytes_eq (codes "open") word then kind_of_open first second (perms_of third)
    else (if bytes_eq (codes "judged-link") word then command (judge_link first second third)
    else no_command)

-- the first word begins with `#`
abbrev pub is_comment : List ℕ → Bool
is_comment word = slice_index word 0 == ascii.number_sign

abbrev pub kind_of_words : List (List ℕ) → LineKind
kind_of_words (a ∷ []) = kind_of_one a
kind_of_words (a ∷ b ∷ []) = kind_of_two a b
kind_of_words (a ∷ b ∷ c ∷ []) = kind_of_three a b c
kind_of_words (a ∷ b ∷ c ∷ d ∷ []) = kind_of_four a b c d
kind_of_words _ = no_command

abbrev pub line_kind : List (List ℕ) → LineKind
line_kind [] = ignored
line_kind (word ∷ words) = if is_comment word then ignored else kind_of_words (word ∷ words)

-- The commands of a script, up to its end or to a line that is no command, whose number is then in `stopped`. Lines are counted
-- from 1.
pub record ScriptOf (C : Type 0) : Type 0 where
  pub commands : List C
  pub stopped : Option ℕ

abbrev pub whole : {C : Type 0} → ScriptOf C
whole = record { commands = []; stopped = None }

abbrev pub stops_at : {C : Type 0} → ℕ → ScriptOf C
stops_at number = record { commands = []; stopped = Some number }

abbrev pub first_command : {C : Type 0} → C → ScriptOf C → ScriptOf C
first_command c script = record { commands = c ∷ script.commands; stopped = script.stopped }

-- The state of reading between two lines: outside a policy, or within one that began at a line, with its text so far.
pub data Section : Type 0 where
  outside : Section
  within : ℕ → List ℕ → Section

-- a policy's text ends before a line that is a single dot
abbrev pub is_end : List ℕ → Bool
is_end line = bytes_eq line (codes ".")

-- what the line with a number says, and the command that the text of a policy is whose `policy` line has a number
pub record Grammar (C : Type 0) : Type 0 where
  pub kind : ℕ → List ℕ → LineOf C
  pub policy : ℕ → List ℕ → C

-- a script's lines after the first `before` ones
abbrev pub script_by : {C : Type 0} → Grammar C → Section → ℕ → List (List ℕ) → ScriptOf C
script_by grammar outside before [] = whole
script_by grammar (within start text) before [] = stops_at start
script_by grammar outside before (line ∷ lines) = elim (grammar.kind (before + 1) line) [
  | ignored ↦ script_by grammar outside (before + 1) lines
  | opens_policy ↦ script_by grammar (within (before + 1) []) (before + 1) lines
  | command c ↦ first_command c (script_by grammar outside (before + 1) lines)
  | no_command ↦ stops_at (before + 1)
]
script_by grammar (within start text) before (line ∷ lines) =
    if is_end line
    then first_command (grammar.policy start text) (script_by grammar outside (before + 1) lines)
    else script_by grammar (within start (text ++ line ++ line_feed ∷ [])) (before + 1) lines

abbrev pub Script : Type 0
Script = ScriptOf Command

abbrev pub run_grammar : Grammar Command
run_grammar = record { kind = λ number line. line_kind (words_of line); policy = λ start text. publish text }

abbrev pub script_from : Section → ℕ → List (List ℕ) → Script
script_from section before lines = script_by run_grammar section before lines

abbrev pub script_of : List ℕ → Script
script_of text = script_from outside 0 (lines_of text)
