-- What comes before the rules of a profile, of a child or of a hat (apparmor.d(5), "Format"): a name, an attachment, extended
-- attributes, flags, and a brace.
use Rattle.std.specs.Prelude.{ℕ, ◌-◌, List, length, codes, Result, Ok, Some, None, ◌==◌, if◌then◌else◌, take}
use Rattle.names.specs.Ascii as ascii
use Rattle.rule_reader.specs.TextBytes.{begins}
use Rattle.rule_reader.specs.ReadWords.{is_word}
use Rattle.apparmor_words.specs.Steps.{Stop, left_out, ◌>>=◌, fault_here}
use Rattle.apparmor_words.specs.Statements.{past_word}
use Rattle.apparmor_words.specs.Conditions.{past_parentheses, past_condition, unknown_flag}
use Rattle.apparmor_words.specs.Words.{is_path, is_colon}
use Rattle.apparmor_text.specs.declared.part.PartKind.TheVariants as parts
use Rattle.apparmor_text.specs.Readings.{Reading, taken, taken_to}
use Rattle.apparmor_text.specs.WordParts.{blank_part, word_part, name_part, literal_part, within_quotes}

-- ---- conditions

-- the flags up to these bytes, each of which is known
abbrev pub flags_to : List ℕ → Reading → Result Reading Stop
flags_to rest s = elim (unknown_flag (take (length s.rest - length rest) s.rest)) [
  | None ↦ Ok (taken_to parts.Flags rest s)
  | Some w ↦ fault_here (left_out w) s.rest
]

-- a condition, if one is here
abbrev pub condition_part : Reading → Result Reading Stop
condition_part s =
    if is_word (codes "xattrs") s.rest then (past_word s.rest >>= λ behind. past_condition behind >>= λ rest. Ok
    (taken_to parts.Xattrs rest s))
    else if is_word (codes "flags") s.rest then (past_word s.rest >>= λ behind. past_condition behind >>= λ rest. flags_to rest s)
    else if begins (λ b. b == ascii.open_parenthesis) s.rest then (past_parentheses s.rest >>= λ rest. flags_to rest s)
    else Ok s

-- ---- headers

-- An attachment, if one is here. None begins with a colon, in quotes or not.
abbrev pub attachment_part : Reading → Result Reading Stop
attachment_part s =
    if is_path s.rest then word_part parts.Attachment s
    else if begins is_colon (within_quotes s.rest) then fault_here (left_out (codes ":")) (within_quotes s.rest)
    else Ok s

-- after the name and the attachment: at most two conditions, and the brace
unfoldable pub head_rest : Reading → Result Reading Stop
head_rest s = do
  first ← condition_part s
  behind ← blank_part first
  second ← condition_part behind
  brace ← blank_part second
  literal_part parts.Open (codes "{") brace

-- a name, an attachment if there is one, and what follows it
unfoldable pub named_head : Reading → Result Reading Stop
named_head s = do
  name ← name_part parts.Name s
  behind ← blank_part name
  attached ← attachment_part behind
  rest ← blank_part attached
  head_rest rest

-- profile NAME
abbrev pub profile_head : Reading → Result Reading Stop
profile_head s = blank_part (taken parts.Profile 7 s) >>= λ name. named_head name

-- hat NAME
abbrev pub hat_head : Reading → Result Reading Stop
hat_head s = blank_part (taken parts.Hat 3 s) >>= λ name. named_head name

-- ^NAME
abbrev pub caret_head : Reading → Result Reading Stop
caret_head s = named_head (taken parts.Hat 1 s)
