-- What is said about a script, line by line. The sentences are our own.
use Rattle.std.specs.Prelude.{ℕ, ◌+◌, Bool, true, false, List, [], ◌∷◌, ◌++◌, ◌||◌, if◌then◌else◌, codes, decimal, Option, Some, None}
use Rattle.std.specs.Prelude.{Result, Ok, Err}
use Rattle.std.specs.Option.{is_some}
use Rattle.rule_explain.specs.FaultLines.{fault_lines_from}
use Rattle.rule_explain.specs.Windows.{place_lines}
use Rattle.rule_profile.specs.Profile.{ProfileValue}
use Rattle.rule_reader.specs.declared.fault.ReadFault.{ReadFault}
use Rattle.rule_reader.specs.ReadText.{outcome_of}
use Rattle.script_notes.specs.ControlBytes.{control_said, first_control}
use Rattle.script_notes.specs.Forms.{why, word_place}
use Rattle.script_notes.specs.Lines.{ended}
use Rattle.script_notes.specs.ScriptLines.{says_in}
use Rattle.script_notes.specs.declared.line.Script.{Script}
use Rattle.script_notes.specs.declared.line.Says.{Says}
use Rattle.script_notes.specs.declared.line.Says.TheVariants.{Nothing, OpensPolicy, Command, NoCommand}
use Rattle.trace_script.specs.Script.{Section, outside, within, is_end, line_feed, lines_of}

-- ---- one line

-- the section after a line of this number; none where the script stops
abbrev pub section_by : Says → ℕ → Option Section
section_by Nothing number = Some outside
section_by OpensPolicy number = Some (within number [])
section_by Command number = Some outside
section_by NoCommand number = None

abbrev pub section_after : Script → Section → ℕ → List ℕ → Option Section
section_after script outside number line = section_by (says_in script number line) number
section_after script (within start text) number line =
    Some (if is_end line then outside else within start (text ++ (line ++ line_feed ∷ [])))

-- of the text of a policy that the line of this number opens: where it has a fault, and which
abbrev pub notes_of_outcome : ℕ → List ℕ → Result ProfileValue ReadFault → List ℕ
notes_of_outcome start text (Ok profile) = []
notes_of_outcome start text (Err f) = ended (fault_lines_from start text f)

abbrev pub policy_notes : ℕ → List ℕ → List ℕ
policy_notes start text = notes_of_outcome start text (outcome_of text)

-- of a line that is no command: the line, with a caret below the word that isn't understood, and why it isn't
abbrev pub no_command_notes : Script → ℕ → List ℕ → List ℕ
no_command_notes script before line =
    ended (place_lines before line (word_place (why script line).word line) (why script line).said)

abbrev pub notes_by : Script → Says → ℕ → List ℕ → List ℕ
notes_by script NoCommand before line = no_command_notes script before line
notes_by script _ before line = []

-- of a line before which there are this many
abbrev pub line_notes : Script → Section → ℕ → List ℕ → List ℕ
line_notes script outside before line = notes_by script (says_in script (before + 1) line) before line
line_notes script (within start text) before line = if is_end line then policy_notes start text else []

-- of the end of the script: a policy that isn't closed
abbrev pub end_notes : Section → List ℕ
end_notes outside = []
end_notes (within start text) =
    ended (codes "line " ++ (decimal start ++ codes ": the policy that begins here has no end, which is a line with a single dot"))

-- ---- control bytes

abbrev pub control_by : Says → List ℕ → Option ℕ
control_by Nothing line = None
control_by _ line = first_control line

-- the first control byte in a word of the line of this number, which has none in a policy, nor where it is a comment
abbrev pub control_in : Script → Section → ℕ → List ℕ → Option ℕ
control_in script outside number line = control_by (says_in script number line) line
control_in script (within start text) number line = None

-- it is noted once
abbrev pub control_notes : Bool → ℕ → Option ℕ → List ℕ
control_notes true number found = []
control_notes false number None = []
control_notes false number (Some b) = ended (control_said number b)

-- ---- the script

-- of the lines after the first `before` ones; no section where the script has stopped
abbrev pub notes_from : Script → Bool → Option Section → ℕ → List (List ℕ) → List ℕ
notes_from script noted None before lines = []
notes_from script noted (Some section) before [] = end_notes section
notes_from script noted (Some section) before (line ∷ lines) =
    control_notes noted (before + 1) (control_in script section (before + 1) line)
    ++ (line_notes script section before line
    ++ notes_from script (noted || is_some (control_in script section (before + 1) line)) (section_after script section (before + 1) line)
    (before + 1) lines)

abbrev pub script_notes : Script → List ℕ → List ℕ
script_notes script text = notes_from script false (Some outside) 0 (lines_of text)
