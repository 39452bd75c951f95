-- The grammar of profile texts, as trees: cells, blanks and names; the bytes of each, and which are valid.
use Rattle.std.specs.Prelude.{◌≡◌, ℕ, ◌≤◌, ◌<◌, List, [], ◌∷◌, ◌++◌, length, codes, Bool, true, false, not, ◌&&◌, ◌||◌, ◌==◌}
use Rattle.std.specs.Prelude.{if◌then◌else◌, Option, Some, None}
use Rattle.names.specs.Ascii as ascii
use Rattle.rule_globs.specs.Each.{Each}
use Rattle.rule_profile.specs.Limits.{longest_profile_name}
use Rattle.rule_reader.specs.TextBytes.{is_white, is_quote, is_include}

-- ---- cells

-- a byte as it is written: by itself, or after a backslash
pub data Cell : Type 0 where
  plain : ℕ → Cell
  escaped : ℕ → Cell

abbrev pub print_cell : Cell → List ℕ
print_cell (plain b) = b ∷ []
print_cell (escaped b) = ascii.backslash ∷ b ∷ []

abbrev pub print_cells : List Cell → List ℕ
print_cells [] = []
print_cells (c ∷ cells) = print_cell c ++ print_cells cells

-- the byte that a cell stands for
abbrev pub byte_of : Cell → ℕ
byte_of (plain b) = b
byte_of (escaped b) = b

-- the cell is this byte by itself
abbrev pub is_plain : ℕ → Cell → Bool
is_plain wanted (plain b) = b == wanted
is_plain wanted (escaped b) = false

-- neither byte 0 nor LF, and no white in a bare part
abbrev pub may_stand : Bool → ℕ → Bool
may_stand quoted b = not (b == 0 || b == ascii.line_feed || (not quoted && is_white b))

-- ---- blanks

pub data Piece : Type 0 where
  white : ℕ → Piece
  -- what is between # and LF
  comment : List ℕ → Piece

abbrev pub print_piece : Piece → List ℕ
print_piece (white b) = b ∷ []
print_piece (comment bytes) = ascii.number_sign ∷ (bytes ++ ascii.line_feed ∷ [])

abbrev pub print_blank : List Piece → List ℕ
print_blank [] = []
print_blank (p ∷ pieces) = print_piece p ++ print_blank pieces

abbrev pub IsCommentByte : ℕ → Type 0
IsCommentByte b = (b == 0 || b == ascii.line_feed) ≡ false

-- a comment is no #include
abbrev pub IsPiece : Piece → Type 0
IsPiece (white b) = is_white b ≡ true
IsPiece (comment bytes) = Each IsCommentByte bytes × (is_include (print_piece (comment bytes)) ≡ false)

abbrev pub IsBlank : List Piece → Type 0
IsBlank pieces = Each IsPiece pieces

-- a blank of at least one byte
abbrev pub IsGap : List Piece → Type 0
IsGap [] = ⊥
IsGap (p ∷ pieces) = IsBlank (p ∷ pieces)

-- Directly after a bare name or path a blank begins with white: a # would be a byte of that name or path.
abbrev pub Stands : Bool → List Piece → Type 0
Stands quoted [] = Unit {0}
Stands quoted (white b ∷ pieces) = Unit {0}
Stands quoted (comment bytes ∷ pieces) = quoted ≡ true

-- a comment that ends at the text's end, or nothing
abbrev pub print_last : Option (List ℕ) → List ℕ
print_last None = []
print_last (Some bytes) = ascii.number_sign ∷ bytes

abbrev pub IsLast : Option (List ℕ) → Type 0
IsLast None = Unit {0}
IsLast (Some bytes) = Each IsCommentByte bytes × (is_include (ascii.number_sign ∷ bytes) ≡ false)

-- ---- names

pub record WrittenName : Type 0 where
  pub quoted : Bool
  pub cells : List Cell

-- in quotes or not
abbrev pub in_quotes : Bool → List ℕ → List ℕ
in_quotes quoted bytes = if quoted then codes "\"" ++ (bytes ++ codes "\"") else bytes

abbrev pub print_name : WrittenName → List ℕ
print_name n = in_quotes n.quoted (print_cells n.cells)

-- the bytes as they are written, without the quotes
abbrev pub name_means : WrittenName → List ℕ
name_means n = print_cells n.cells

-- a backslash goes with the byte after it, and no quote is by itself
abbrev pub IsNameCell : Bool → Cell → Type 0
IsNameCell quoted (plain b) = (may_stand quoted b && not (is_quote b || b == ascii.backslash)) ≡ true
IsNameCell quoted (escaped b) = (b == 0 || b == ascii.line_feed) ≡ false

-- a bare name doesn't begin with { } , or #, and no name begins with a colon
abbrev pub begins_name : Bool → Cell → Bool
begins_name quoted (plain b) = not (b == ascii.colon || (not quoted && (b == ascii.open_brace || b == ascii.close_brace
    || b == ascii.comma || b == ascii.number_sign)))
begins_name quoted (escaped b) = true

-- a name after the word profile
abbrev pub IsFirst : Bool → List Cell → Type 0
IsFirst quoted [] = ⊥
IsFirst quoted (c ∷ cells) = begins_name quoted c ≡ true

-- a name or an attachment that begins with a slash
abbrev pub BeginsWithSlash : List Cell → Type 0
BeginsWithSlash [] = ⊥
BeginsWithSlash (c ∷ cells) = is_plain ascii.slash c ≡ true

-- at least one byte, and at most `longest_profile_name`
pub record IsWrittenName (n : WrittenName) : Type 0 where
  pub cells : Each (IsNameCell n.quoted) n.cells
  pub some : 0 < length n.cells
  pub fits : length (print_cells n.cells) ≤ longest_profile_name
