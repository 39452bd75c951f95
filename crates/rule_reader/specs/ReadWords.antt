-- Reading the parts of a text below rules: blanks, words and names. Reading a part returns its value and the bytes after it.
use Rattle.std.specs.Prelude.{ℕ, zero, suc, List, [], ◌∷◌, length, codes, Result, Ok, Bool, true, false, not, ◌&&◌, ◌||◌, ◌==◌}
use Rattle.std.specs.Prelude.{if◌then◌else◌}
use Rattle.std.specs.Str.{bytes_eq}
use Rattle.names.specs.Ascii as ascii
use Rattle.rule_reader.specs.declared.reader.name.NameByte.{NameByte}
use Rattle.rule_reader.specs.declared.reader.name.NameByte.TheVariants.{OfName, Ends, Wrong}
use Rattle.rule_reader.specs.declared.reader.local_fault.FaultKind.{FaultKind}
use Rattle.rule_reader.specs.declared.reader.local_fault.FaultKind.TheVariants as kinds
use Rattle.rule_reader.specs.declared.reader.local_fault.LocalFault.{LocalFault}
use Rattle.rule_reader.specs.ReadSteps.{◌>>=◌, fault_here, fault_with_left, syntax}
use Rattle.rule_reader.specs.TextBytes.{begins, is_white, is_hash, opens_blank, is_include, is_letter_byte, is_word_byte, is_quote}

-- ---- runs of bytes

-- the longest prefix whose bytes pass the test
abbrev pub leading : (ℕ → Bool) → List ℕ → List ℕ
leading test [] = []
leading test (b ∷ bytes) = if test b then b ∷ leading test bytes else []

-- what is left after it
abbrev pub after : (ℕ → Bool) → List ℕ → List ℕ
after test [] = []
after test (b ∷ bytes) = if test b then after test bytes else b ∷ bytes

-- ---- blanks: any run of white and comments

-- within a comment, or outside one. A comment ends before the next LF or at the text's end
abbrev pub blank_at : Bool → List ℕ → Result (List ℕ) LocalFault
blank_at comment [] = Ok []
blank_at true (b ∷ bytes) = if b == 0 then syntax (b ∷ bytes) else blank_at (not (b == ascii.line_feed)) bytes
blank_at false (b ∷ bytes) =
    if is_white b then blank_at false bytes
    else if is_hash b then (if is_include (b ∷ bytes) then fault_here (kinds.LeftOut 8) (b ∷ bytes) else blank_at true bytes)
    else Ok (b ∷ bytes)

abbrev pub blank : List ℕ → Result (List ℕ) LocalFault
blank bytes = blank_at false bytes

-- a blank of at least one byte
abbrev pub gap : List ℕ → Result (List ℕ) LocalFault
gap bytes = if begins opens_blank bytes then blank bytes else syntax bytes

-- ---- words

-- these bytes; the fault is at the first that differs
abbrev pub literal : List ℕ → List ℕ → Result (List ℕ) LocalFault
literal [] bytes = Ok bytes
literal (w ∷ word) [] = syntax []
literal (w ∷ word) (b ∷ bytes) = if b == w then literal word bytes else syntax (b ∷ bytes)

-- the longest run of letters, digits and _ that begins with a letter; empty if there is none
abbrev pub word : List ℕ → List ℕ
word bytes = if begins is_letter_byte bytes then leading is_word_byte bytes else []

-- what is left after a word
abbrev pub after_word : List ℕ → List ℕ
after_word bytes = after is_word_byte bytes

-- the word here is this one
abbrev pub is_word : List ℕ → List ℕ → Bool
is_word wanted bytes = bytes_eq (word bytes) wanted

-- a fault of the word here, found by looking at what follows the word
abbrev pub fault_of_word : {A : Type 0} → FaultKind → List ℕ → Result A LocalFault
fault_of_word kind bytes = fault_with_left kind (length bytes) (after_word bytes)

-- the word here is not supported
abbrev pub word_left_out : {A : Type 0} → List ℕ → Result A LocalFault
word_left_out bytes = fault_of_word (kinds.LeftOut (length (word bytes))) bytes

-- ---- names (of profiles and of attachments)

-- In quotes or not, and directly after a backslash or not: a backslash goes with the byte after it. No name has LF or byte 0. A
-- bare name ends before white and has no quote; one in quotes ends before the next quote.
abbrev pub name_byte : Bool → Bool → ℕ → NameByte
name_byte quoted escaped b =
    if b == 0 || (b == ascii.line_feed && (quoted || escaped)) then Wrong
    else if escaped then OfName
    else if is_quote b then (if quoted then Ends else Wrong)
    else if not quoted && is_white b then Ends
    else OfName

-- The bytes of a name, at most as many as there is room for; one more is a fault at the name's first byte, from which on `first`
-- bytes are left.
unfoldable pub name_bytes : Bool → ℕ → Bool → ℕ → List ℕ → Result (List ℕ × List ℕ) LocalFault
name_bytes quoted first escaped room [] = if quoted || escaped then syntax [] else Ok ([], [])
name_bytes quoted first escaped zero (b ∷ bytes) = elim (name_byte quoted escaped b) [
  | OfName ↦ fault_with_left kinds.Syntax first (b ∷ bytes)
  | Ends ↦ Ok ([], b ∷ bytes)
  | Wrong ↦ syntax (b ∷ bytes)
]
name_bytes quoted first escaped (suc room) (b ∷ bytes) = elim (name_byte quoted escaped b) [
  | OfName ↦ name_bytes quoted first (not escaped && b == ascii.backslash) room bytes >>= λ x. Ok (b ∷ x.0, x.1)
  | Ends ↦ Ok ([], b ∷ bytes)
  | Wrong ↦ syntax (b ∷ bytes)
]

-- a name of at least one byte
unfoldable pub name_in : Bool → ℕ → List ℕ → Result (List ℕ × List ℕ) LocalFault
name_in quoted room bytes =
    name_bytes quoted (length bytes) false room bytes >>= λ x. if length x.0 == 0 then syntax x.1 else Ok x

-- the same and the closing quote
unfoldable pub quoted_name : ℕ → List ℕ → Result (List ℕ × List ℕ) LocalFault
quoted_name room bytes = do
  name ← name_in true room bytes
  rest ← literal (codes "\"") name.1
  Ok (name.0, rest)
