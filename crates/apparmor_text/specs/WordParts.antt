-- Blanks and words as parts.
use Rattle.std.specs.Prelude.{ℕ, List, length, codes, Result, Ok, Bool, false, ◌||◌, ◌==◌, if◌then◌else◌, drop, nat_eq}
use Rattle.std.specs.List.{starts_with}
use Rattle.names.specs.Ascii as ascii
use Rattle.rule_reader.specs.TextBytes.{begins, opens_blank, is_quote, is_comma, is_open_brace, is_close_brace}
use Rattle.apparmor_words.specs.Steps.{Stop, left_out, ◌>>=◌, fault_here, syntax_here}
use Rattle.apparmor_words.specs.Words.{blank_at, word_end, is_path, is_colon}
use Rattle.apparmor_text.specs.declared.part.PartKind.{PartKind}
use Rattle.apparmor_text.specs.declared.part.PartKind.TheVariants as parts
use Rattle.apparmor_text.specs.Readings.{Reading, taken, taken_to}

-- white space and comments, if any are here
abbrev pub blank_part : Reading → Result Reading Stop
blank_part s = blank_at false s.rest >>= λ rest. Ok (taken_to parts.Blank rest s)

-- a blank of at least one byte
abbrev pub gap_part : Reading → Result Reading Stop
gap_part s = if begins opens_blank s.rest then blank_part s else syntax_here s.rest

-- a word
abbrev pub word_part : PartKind → Reading → Result Reading Stop
word_part kind s = word_end s.rest >>= λ rest. Ok (taken_to kind rest s)

-- what is here, after a quote if there is one
abbrev pub within_quotes : List ℕ → List ℕ
within_quotes bytes = if begins is_quote bytes then drop 1 bytes else bytes

-- a word that is a path
abbrev pub path_part : PartKind → Reading → Result Reading Stop
path_part kind s = if is_path s.rest then word_part kind s else syntax_here (within_quotes s.rest)

-- these bytes
abbrev pub literal_part : PartKind → List ℕ → Reading → Result Reading Stop
literal_part kind literal s =
    if starts_with nat_eq s.rest literal then Ok (taken kind (length literal) s) else syntax_here s.rest

-- a bare name begins with none of these: { } , (
abbrev pub begins_no_name : ℕ → Bool
begins_no_name b = is_open_brace b || is_close_brace b || is_comma b || b == ascii.open_parenthesis

-- A word that is a name: at least one byte, the first of which isn't a colon.
abbrev pub name_part : PartKind → Reading → Result Reading Stop
name_part kind s =
    if begins is_colon (within_quotes s.rest) then fault_here (left_out (codes ":")) (within_quotes s.rest)
    else if begins is_quote (within_quotes s.rest) then syntax_here (within_quotes s.rest)
    else if begins begins_no_name s.rest then syntax_here s.rest
    else word_part kind s
