-- The bytes of a profile text, by what they may be a part of (ascii(7) has their numbers).
use Rattle.std.specs.Prelude.{ℕ, Bool, false, List, [], ◌∷◌, codes, not, ◌&&◌, ◌||◌, ◌==◌, drop, nat_eq}
use Rattle.std.specs.Char.{is_ascii_alphabetic, is_ascii_alphanumeric}
use Rattle.std.specs.List.{starts_with}
use Rattle.names.specs.Ascii as ascii

-- the first byte passes the test
abbrev pub begins : (ℕ → Bool) → List ℕ → Bool
begins test [] = false
begins test (b ∷ bytes) = test b

-- space, tab, LF, CR
abbrev pub is_white : ℕ → Bool
is_white b = b == ascii.space || b == ascii.tab || b == ascii.line_feed || b == ascii.carriage_return

-- #
abbrev pub is_hash : ℕ → Bool
is_hash b = b == ascii.number_sign

-- white, or the # that opens a comment
abbrev pub opens_blank : ℕ → Bool
opens_blank b = is_white b || is_hash b

-- a byte that makes the word #include before it more than a comment: space, tab, < or "
abbrev pub is_include_mark : ℕ → Bool
is_include_mark b = b == ascii.space || b == ascii.tab || b == ascii.less_than || b == ascii.quote

-- #include and such a byte
abbrev pub is_include : List ℕ → Bool
is_include bytes = starts_with nat_eq bytes (codes "#include") && begins is_include_mark (drop 8 bytes)

-- a letter begins a word
abbrev pub is_letter_byte : ℕ → Bool
is_letter_byte b = is_ascii_alphabetic b

-- an ASCII letter or digit, or _
abbrev pub is_word_byte : ℕ → Bool
is_word_byte b = is_ascii_alphanumeric b || b == ascii.underscore

-- "
abbrev pub is_quote : ℕ → Bool
is_quote b = b == ascii.quote

abbrev pub is_comma : ℕ → Bool
is_comma b = b == ascii.comma

-- *
abbrev pub is_star : ℕ → Bool
is_star b = b == ascii.asterisk

-- {
abbrev pub is_open_brace : ℕ → Bool
is_open_brace b = b == ascii.open_brace

-- }
abbrev pub is_close_brace : ℕ → Bool
is_close_brace b = b == ascii.close_brace

-- ->
abbrev pub is_arrow : List ℕ → Bool
is_arrow bytes = starts_with nat_eq bytes (codes "->")

-- a byte after a comma that ends a bare path: white, #, }, " or another comma
abbrev pub ends_behind_comma : ℕ → Bool
ends_behind_comma b = is_white b || is_hash b || is_close_brace b || is_quote b || is_comma b

-- What may follow a backslash in a path: neither LF nor byte 0, and no letter or digit, which would be a character code.
abbrev pub is_escapable : ℕ → Bool
is_escapable b = not (b == 0 || b == ascii.line_feed || is_ascii_alphanumeric b)
