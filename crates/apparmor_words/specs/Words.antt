-- Blanks and words of a flattened text. Reading one gives the bytes after it.
use Rattle.std.specs.Prelude.{ℕ, List, [], ◌∷◌, length, codes, Result, Ok, Bool, true, false, not, ◌&&◌, ◌||◌, ◌==◌, if◌then◌else◌, drop}
use Rattle.std.specs.Prelude.{Option, Some, None, nat_eq}
use Rattle.std.specs.List.{list_any, starts_with}
use Rattle.names.specs.Ascii as ascii
use Rattle.rule_reader.specs.TextBytes.{begins, is_white, is_hash, is_include, is_quote, is_comma}
use Rattle.apparmor_words.specs.declared.words.Quoted.{Quoted}
use Rattle.apparmor_words.specs.Steps.{Stop, include, ◌>>=◌, fault_here, syntax_here}

-- ---- blanks: any run of whitespace and comments

-- Within a comment, or outside one. A comment extends to before the next LF or to the end.
abbrev pub blank_at : Bool → List ℕ → Result (List ℕ) Stop
blank_at comment [] = Ok []
blank_at true (b ∷ bytes) = blank_at (not (b == ascii.line_feed)) bytes
blank_at false (b ∷ bytes) =
    if is_white b then blank_at false bytes
    else if is_hash b then (if is_include (b ∷ bytes) then fault_here include (b ∷ bytes) else blank_at true bytes)
    else Ok (b ∷ bytes)

-- ---- words (apparmor.d(5), "Format"; the page says nothing of what a backslash before the end of a word does)

-- what follows a comma that ends a bare word: whitespace, a quote, a comma, ! or the text's end
abbrev pub comma_ends : List ℕ → Bool
comma_ends [] = true
comma_ends (b ∷ bytes) = is_white b || is_quote b || is_comma b || b == ascii.exclamation_mark

-- The byte takes the backslash after it along, or that backslash takes what would end the word: AppArmor's parser may read the word
-- either way. The byte is a backslash or a comma.
abbrev pub is_doubtful : ℕ → List ℕ → Bool
is_doubtful b bytes = (b == ascii.backslash || is_comma b) && begins (λ c. c == ascii.backslash) bytes && comma_ends (drop 1 bytes)

-- A bare word, directly after a backslash or not: a backslash belongs with the byte after it. No end of it is in doubt.
abbrev pub bare_at : Bool → List ℕ → Result (List ℕ) Stop
bare_at escaped [] = Ok []
bare_at escaped (b ∷ bytes) =
    if b == 0 then syntax_here (b ∷ bytes)
    else if not escaped && (is_white b || is_quote b || (is_comma b && comma_ends bytes)) then Ok (b ∷ bytes)
    else if not escaped && is_doubtful b bytes then syntax_here (b ∷ bytes)
    else bare_at (not escaped && b == ascii.backslash) bytes

-- a word in quotes begins
abbrev pub quote_opened : Quoted
quote_opened = record { escaped = false; doubled = false }

-- A quote that ends a word after two backslashes, of which one takes the other, is in doubt if there is another quote in the text:
-- AppArmor's parser then reads the word on to that one.
abbrev pub is_doubtful_quote : Quoted → List ℕ → Bool
is_doubtful_quote before bytes = before.doubled && list_any is_quote bytes

-- A backslash takes the byte after it, and one that is taken itself takes none.
abbrev pub behind_byte : Quoted → ℕ → Quoted
behind_byte before b = record { escaped = not before.escaped && b == ascii.backslash; doubled = before.escaped && b == ascii.backslash }

-- One byte of a word in quotes: what the next one comes after, or None if it is the quote that ends the word.
abbrev pub quoted_step : Quoted → ℕ → List ℕ → Result (Option Quoted) Stop
quoted_step before b bytes =
    if b == 0 || b == ascii.line_feed then syntax_here (b ∷ bytes)
    else if is_quote b && not before.escaped then (if is_doubtful_quote before bytes then syntax_here (b ∷ bytes) else Ok None)
    else Ok (Some (behind_byte before b))

-- the rest of a word in quotes, up to the quote that ends it
abbrev pub quoted_at : Quoted → List ℕ → Result (List ℕ) Stop
quoted_at before [] = syntax_here []
quoted_at before (b ∷ bytes) = quoted_step before b bytes >>= λ next. elim next [ None ↦ Ok bytes | Some at ↦ quoted_at at bytes ]

-- a word, in quotes or of at least one byte
unfoldable pub word_end : List ℕ → Result (List ℕ) Stop
word_end bytes =
    if begins is_quote bytes then quoted_at quote_opened (drop 1 bytes)
    else (bare_at false bytes >>= λ rest. if length rest == length bytes then syntax_here bytes else Ok rest)

-- / or @{
abbrev pub begins_path : List ℕ → Bool
begins_path bytes = starts_with nat_eq bytes (codes "/") || starts_with nat_eq bytes (codes "@{")

-- the same, in quotes or not
abbrev pub is_path : List ℕ → Bool
is_path bytes = if begins is_quote bytes then begins_path (drop 1 bytes) else begins_path bytes

-- :, in quotes or not, would begin the name of a namespace
abbrev pub is_colon : ℕ → Bool
is_colon b = b == ascii.colon
