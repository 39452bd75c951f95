-- A text of a profile as a sequence of pieces (apparmor.d(5), "Variables"): uses of variables, and the bytes between them.
use Rattle.std.specs.Prelude.{ℕ, zero, suc, ◌-◌, Bool, false, ◌&&◌, ◌||◌, ◌==◌, if◌then◌else◌, List, [], ◌∷◌, ◌++◌, length, drop, Option}
use Rattle.std.specs.Prelude.{Some, None}
use Rattle.std.specs.Char.{is_ascii_alphabetic, is_ascii_alphanumeric}
use Rattle.std.specs.List.{prefix_len, take_while}
use Rattle.names.specs.Ascii as ascii

abbrev pub Text : Type 0
Text = List ℕ

pub data Piece : Type 0 where
  -- a byte that stands for itself
  byte : ℕ → Piece
  -- a backslash and the byte after it; both stand for themselves
  escaped : ℕ → Piece
  -- a use of the variable of that name: @{NAME}
  use_of : Text → Piece

-- the piece as it is written
abbrev pub written : Piece → Text
written (byte b) = b ∷ []
written (escaped b) = ascii.backslash ∷ b ∷ []
written (use_of name) = ascii.at_sign ∷ ascii.open_brace ∷ name ++ ascii.close_brace ∷ []

-- a name is made of letters, digits and _
abbrev pub is_name_byte : ℕ → Bool
is_name_byte b = is_ascii_alphanumeric b || b == ascii.underscore

-- the text's first byte passes the test
abbrev pub begins : (ℕ → Bool) → Text → Bool
begins test [] = false
begins test (b ∷ bytes) = test b

abbrev pub is_close_brace : ℕ → Bool
is_close_brace b = b == ascii.close_brace

-- the name at the front, if it begins with a letter and a closing brace follows it
abbrev pub closed_name : Text → Option Text
closed_name bytes =
    if begins is_ascii_alphabetic bytes && begins is_close_brace (drop (prefix_len is_name_byte bytes) bytes)
    then Some (take_while is_name_byte bytes)
    else None

-- the name of the use whose @ directly precedes these bytes
abbrev pub used_name : Text → Option Text
used_name [] = None
used_name (b ∷ bytes) = if b == ascii.open_brace then closed_name bytes else None

-- the piece that a backslash forms with the bytes after it
abbrev pub escape : Text → Piece
escape [] = byte ascii.backslash
escape (b ∷ bytes) = escaped b

-- the piece that begins with this byte and continues with these
abbrev pub first_piece : ℕ → Text → Piece
first_piece b bytes =
    if b == ascii.backslash then escape bytes
    else if b == ascii.at_sign then elim (used_name bytes) [ None ↦ byte b | Some name ↦ use_of name ]
    else byte b

-- the pieces of a text whose first `told` bytes belong to a piece that is already listed
unfoldable pub pieces_behind : ℕ → Text → List Piece
pieces_behind told [] = []
pieces_behind zero (b ∷ bytes) = first_piece b bytes ∷ pieces_behind (length (written (first_piece b bytes)) - 1) bytes
pieces_behind (suc told) (b ∷ bytes) = pieces_behind told bytes

-- the pieces of a text, from left to right
abbrev pub pieces : Text → List Piece
pieces text = pieces_behind 0 text

-- the names of the variables that pieces use
abbrev pub names_in : List Piece → List Text
names_in [] = []
names_in (byte b ∷ more) = names_in more
names_in (escaped b ∷ more) = names_in more
names_in (use_of name ∷ more) = name ∷ names_in more

-- the names of the variables that a text uses, in reading order
abbrev pub used_names : Text → List Text
used_names text = names_in (pieces text)
