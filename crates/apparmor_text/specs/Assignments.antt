-- Assignments to variables (apparmor.d(5), "Variables").
use Rattle.std.specs.Prelude.{ℕ, zero, suc, length, codes, Result, Ok, Some, None, if◌then◌else◌, nat_eq}
use Rattle.std.specs.List.{starts_with}
use Rattle.rule_reader.specs.TextBytes.{is_white}
use Rattle.rule_reader.specs.ReadWords.{after}
use Rattle.apparmor_words.specs.Assignments.{past_use, past_separators, line_ends}
use Rattle.apparmor_words.specs.Steps.{Stop, ◌>>=◌, syntax_here}
use Rattle.apparmor_text.specs.declared.part.PartKind.TheVariants as parts
use Rattle.apparmor_text.specs.Readings.{Reading, taken, taken_to}
use Rattle.apparmor_text.specs.WordParts.{word_part}

-- what separates values, if any of it is here
abbrev pub separators_part : Reading → Reading
separators_part s = taken_to parts.Separator (past_separators s.rest) s

-- at most n values more, up to the line's end
abbrev pub values_at : ℕ → Reading → Result Reading Stop
values_at zero s = Ok s
values_at (suc n) s =
    if line_ends (separators_part s).rest then Ok (separators_part s)
    else (word_part parts.Value (separators_part s) >>= λ behind. values_at n behind)

-- one value or more
unfoldable pub values_part : Reading → Result Reading Stop
values_part s = word_part parts.Value (separators_part s) >>= λ behind. values_at (suc (length behind.rest)) behind

-- white space, if any is here
abbrev pub white_part : Reading → Reading
white_part s = taken_to parts.Blank (after is_white s.rest) s

-- = or +=, one of which is here
abbrev pub operator_part : Reading → Reading
operator_part s = if starts_with nat_eq s.rest (codes "=") then taken parts.Equals 1 s else taken parts.Adds 2 s

-- an assignment; it is here
unfoldable pub assignment_part : Reading → Result Reading Stop
assignment_part s = elim (past_use s.rest) [
  | None ↦ syntax_here s.rest
  | Some rest ↦ values_part (operator_part (white_part (taken_to parts.Variable rest s)))
]
