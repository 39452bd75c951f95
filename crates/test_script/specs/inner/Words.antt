-- What a word in quotes goes on with.
use Rattle.std.specs.Prelude.{ℕ, ◌<◌, Bool, true, List, [], ◌∷◌, ◌++◌, length, Option, Some, None}
use Rattle.trace_script.specs.Script.{is_blank}
use Rattle.test_script.specs.declared.quotes.Piece.{Piece}
use Rattle.test_script.specs.declared.quotes.Piece.TheVariants.{Byte, End, Bad}
use Rattle.test_script.specs.declared.quotes.EscapeKind.{EscapeKind as EscapeKindHere}
use Rattle.test_script.specs.declared.quotes.EscapeKind.TheVariants.{Hex, Byte as EscapedByte, Unknown}
use Rattle.test_script.specs.TestScript.{EscapeKind, begins_hex, is_byte, is_unknown, closed, quoted, with_word, words_from}

-- the words of what is left of a line in quotes, where this comes next, after these bytes of the word
abbrev pub piece_words : List ℕ → Piece → Option (List (List ℕ))
piece_words word (Byte byte rest) = words_from (quoted (word ++ byte ∷ [])) rest.now
piece_words word (End rest) = with_word word (words_from closed rest.now)
piece_words word Bad = None

abbrev pub IsShorter : Piece → ℕ → Type 0
IsShorter (Byte byte rest) count = length rest.now < count
IsShorter (End rest) count = length rest.now < count
IsShorter Bad count = Unit {0}

-- a word ends before these bytes
abbrev pub is_parted : List ℕ → Bool
is_parted [] = true
is_parted (b ∷ bytes) = is_blank b

abbrev pub escape_value : EscapeKindHere → EscapeKind
escape_value Hex = begins_hex
escape_value (EscapedByte byte) = is_byte byte
escape_value Unknown = is_unknown
