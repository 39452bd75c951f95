-- How scripts are followed, line by line: each command prints lines, and leads from one state to another.
use Rattle.std.specs.Prelude.{◌≡◌, ℕ, ◌+◌, ◌≤◌, List, [], ◌∷◌, ◌++◌, take, length, Option, Some, None, Result, Ok, Err, MatchBool}
use Rattle.std.specs.Io.KnownBytes.{Keeps, Appends, Consumes}
use Rattle.trace_report.specs.Streams.{AppendsFront}
use Rattle.trace_script.specs.declared.section.Section.{Section as SectionHere}
use Rattle.trace_script.specs.declared.stop.Stop.{Stop}
use Rattle.trace_script.specs.declared.stop.Stop.TheVariants.{NoCommand, Input, TooLong, Memory, Output}
use Rattle.trace_script.specs.Engine.{section_value, IsTooLong}
use Rattle.trace_script.specs.RunOutput.{text_of_lines}
use Rattle.trace_script.specs.Script.{Section, outside, within, LineOf, ignored, opens_policy, command, no_command, is_end, line_feed}
use Rattle.trace_script.specs.Script.{Grammar, ScriptOf, script_by, lines_of}

-- the lines that are printed
abbrev pub Lines : Type 0
Lines = List (List ℕ)

-- what lines say, and which lines a command may print in a state, and where it may lead
pub record Engine (C S : Type 0) : Type 1 where
  pub grammar : Grammar C
  pub Does : S → C → Lines → S → Type 0

-- a command was done and its lines were printed; or a front part of them, or nothing, because memory ran out
abbrev pub IsPrinted : {S T : Type 0} → (Lines → S → Type 0) → S → Option (List ℕ) → Option (List ℕ) → Result T Stop → Type 0
IsPrinted Does new before after (Ok done) = (lines : Lines) × Does lines new × Appends before after (text_of_lines lines)
IsPrinted Does new before after (Err Memory) = Keeps before after
IsPrinted {S = S} Does new before after (Err Output) =
    (lines : Lines) × (reached : S) × Does lines reached × AppendsFront before after (text_of_lines lines)
IsPrinted Does new before after (Err _) = ⊥

module _ {C S : Type 0} (engine : Engine C S) where
  -- the line of this number, by what it says: the section after it, the lines that it prints, and the state
  abbrev pub KindDoes : S → ℕ → LineOf C → Section → Lines → S → Type 0
  KindDoes old number ignored next lines new = (next ≡ outside) × (lines ≡ []) × (new ≡ old)
  KindDoes old number opens_policy next lines new = (next ≡ within number []) × (lines ≡ []) × (new ≡ old)
  KindDoes old number (command c) next lines new = (next ≡ outside) × engine.Does old c lines new
  KindDoes old number no_command next lines new = ⊥

  abbrev pub LineDoes : S → Section → ℕ → List ℕ → Section → Lines → S → Type 0
  LineDoes old outside number line next lines new = KindDoes old number (engine.grammar.kind number line) next lines new
  LineDoes old (within start text) number line next lines new = MatchBool (is_end line)
      ((next ≡ outside) × engine.Does old (engine.grammar.policy start text) lines new)
      ((next ≡ within start (text ++ line ++ line_feed ∷ [])) × (lines ≡ []) × (new ≡ old))

  -- a line was followed, or following stopped at it
  abbrev pub IsLineFollowed : S → Section → ℕ → List ℕ → S → Option (List ℕ) → Option (List ℕ) → Result SectionHere Stop → Type 0
  IsLineFollowed old section number line new before after (Ok next) =
      (lines : Lines) × LineDoes old section number line (section_value next) lines new × Appends before after (text_of_lines lines)
  IsLineFollowed old section number line new before after (Err (NoCommand told)) =
      (section ≡ outside) × (engine.grammar.kind number line ≡ no_command) × (told ≡ number) × (new ≡ old) × Keeps before after
  IsLineFollowed old section number line new before after (Err Memory) = Keeps before after
  IsLineFollowed old section number line new before after (Err Output) = (next : Section) × (lines : Lines) × (reached : S)
      × LineDoes old section number line next lines reached × AppendsFront before after (text_of_lines lines)
  IsLineFollowed old section number line new before after (Err Input) = ⊥
  IsLineFollowed old section number line new before after (Err TooLong) = ⊥

  -- one command after the other
  abbrev pub DoesAll : S → List C → Lines → S → Type 0
  DoesAll old [] lines new = (lines ≡ []) × (new ≡ old)
  DoesAll old (c ∷ cs) lines new = (here later : Lines) × (between : S)
      × engine.Does old c here between × DoesAll between cs later new × (lines ≡ here ++ later)

  abbrev pub script : List ℕ → ScriptOf C
  script text = script_by engine.grammar outside 0 (lines_of text)

  -- Of what was taken from the reader, if that is known, all commands are done except perhaps the last, if `count` of them are.
  abbrev pub CommandsRead : Option (List ℕ) → Option (List ℕ) → ℕ → Type 0
  CommandsRead left_before left_after count =
      (read : List ℕ) × Consumes left_before left_after read × (length (script read).commands ≤ count + 1)

  -- the first commands of a script are done, and print these lines
  abbrev pub PrintsFirst : S → List ℕ → ℕ → Lines → Type 0
  PrintsFirst old text count lines = (reached : S) × DoesAll old (take count (script text).commands) lines reached

  -- what the first commands print was printed, those of all commands that were read except perhaps the last
  abbrev pub IsShort : S → Option (List ℕ) → Option (List ℕ) → List ℕ → Option (List ℕ) → Option (List ℕ) → Type 0
  IsShort old left left_after text before after =
      (count : ℕ) × (lines : Lines) × CommandsRead left left_after count × PrintsFirst old text count lines
      × Appends before after (text_of_lines lines)

  -- the commands of a script are done and what they print was printed
  abbrev pub IsWhole : S → List ℕ → S → Option (List ℕ) → Option (List ℕ) → Type 0
  IsWhole old text new before after =
      (lines : Lines) × DoesAll old (script text).commands lines new × Appends before after (text_of_lines lines)

  -- the commands of a script are done, or the first ones, and why there are no more
  abbrev pub IsFollowed : {T : Type 0} → S → Option (List ℕ) → Option (List ℕ) → List ℕ → S → Option (List ℕ) → Option (List ℕ) →
      Result T Stop → Type 0
  IsFollowed old left left_after text new before after (Ok done) =
      ((script text).stopped ≡ None) × IsWhole old text new before after × Consumes left left_after text
  IsFollowed old left left_after text new before after (Err (NoCommand number)) =
      ((script text).stopped ≡ Some number) × IsWhole old text new before after
  IsFollowed old left left_after text new before after (Err Input) = IsShort old left left_after text before after
  IsFollowed old left left_after text new before after (Err TooLong) = IsTooLong left left_after
      × IsShort old left left_after text before after
  IsFollowed old left left_after text new before after (Err Memory) = IsShort old left left_after text before after
  IsFollowed old left left_after text new before after (Err Output) =
      (count : ℕ) × (lines : Lines) × PrintsFirst old text count lines × AppendsFront before after (text_of_lines lines)

-- ---- engines whose commands do one thing in each state

-- the lines that a command prints, and the state that it leads to
pub record Step (S : Type 0) : Type 0 where
  pub lines : Lines
  pub state : S

pub record ExactEngine (C S : Type 0) : Type 0 where
  pub grammar : Grammar C
  pub does : S → C → Step S

abbrev pub IsStep : {S : Type 0} → Step S → Lines → S → Type 0
IsStep step lines new = (lines ≡ step.lines) × (new ≡ step.state)

abbrev pub exactly : {C S : Type 0} → ExactEngine C S → Engine C S
exactly engine = record { grammar = engine.grammar; Does = λ old c. IsStep (engine.does old c) }
