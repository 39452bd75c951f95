-- Reading a rule's path (apparmor.d(5), "Globbing"), token by token.
use Rattle.std.specs.Prelude.{ℕ, zero, suc, List, [], ◌∷◌, length, codes, Result, Ok, Bool, true, false, not, ◌&&◌, ◌||◌, ◌==◌}
use Rattle.std.specs.Prelude.{if◌then◌else◌, nat_le, drop, nat_eq}
use Rattle.std.specs.Char.{is_ascii_alphanumeric}
use Rattle.std.specs.List.{starts_with}
use Rattle.names.specs.Ascii as ascii
use Rattle.rule_reader.specs.declared.reader.local_fault.FaultKind.TheVariants as kinds
use Rattle.rule_reader.specs.declared.reader.local_fault.LocalFault.{LocalFault}
use Rattle.rule_globs.specs.Glob.{is_slash}
use Rattle.rule_reader.specs.ReadClasses.{class_at}
use Rattle.rule_reader.specs.ReadSteps.{◌>>=◌, fault_here, fault_with_left, syntax}
use Rattle.rule_profile.specs.Limits.{most_items, most_nested}
use Rattle.rule_profile.specs.PathTokens.{is_plain_slash}
use Rattle.rule_reader.specs.ReadWords.{after, literal}
use Rattle.rule_reader.specs.TextBytes.{begins, is_white, is_quote, is_comma, is_star, is_open_brace, is_close_brace, ends_behind_comma}
use Rattle.rule_globs.specs.Tokens.{Token, byte, any_byte, bracket, stars, opening, between, closing}

-- what follows a comma ends a path at the comma; so does the text's end
abbrev pub comma_ends : List ℕ → Bool
comma_ends [] = true
comma_ends (b ∷ bytes) = ends_behind_comma b

-- The path ends before these bytes, at this depth of groups. One in quotes ends before a quote; a bare one before white and
-- a quote, at the text's end, and outside groups before a comma with the right byte after it.
abbrev pub path_ends : Bool → ℕ → List ℕ → Bool
path_ends quoted depth [] = not quoted
path_ends quoted depth (b ∷ bytes) =
    is_quote b || (not quoted && (is_white b || (is_comma b && (depth == 0) && comma_ends bytes)))

-- the byte after a backslash, which precedes these bytes
abbrev pub escaped_at : List ℕ → Result (ℕ × List ℕ) LocalFault
escaped_at [] = syntax []
escaped_at (b ∷ bytes) =
    if b == 0 || b == ascii.line_feed then syntax (b ∷ bytes)
    else if is_ascii_alphanumeric b then fault_with_left (kinds.LeftOut 2) (suc (length (b ∷ bytes))) (b ∷ bytes)
    else Ok (b, bytes)

-- Whether an item, a brace or a comma begins here, or the path ends; anything else is a fault.
unfoldable pub goes_on_at : Bool → ℕ → List ℕ → Result Bool LocalFault
goes_on_at quoted depth [] = if quoted then syntax [] else Ok false
goes_on_at quoted depth (b ∷ bytes) =
    if b == 0 || (quoted && b == ascii.line_feed) then syntax (b ∷ bytes)
    else if path_ends quoted depth (b ∷ bytes) then Ok false
    else if is_open_brace b && nat_le most_nested depth then fault_here kinds.Depth (b ∷ bytes)
    else if is_close_brace b && (depth == 0) then fault_here kinds.Group (b ∷ bytes)
    else if b == ascii.at_sign && begins is_open_brace bytes then fault_here (kinds.LeftOut 2) (b ∷ bytes)
    else if b == ascii.backslash then (escaped_at bytes >>= λ _. Ok true)
    else Ok true

-- a plain slash is here, by itself or after a backslash, or the path ends
abbrev pub slash_or_end : Bool → ℕ → List ℕ → Bool
slash_or_end quoted depth bytes =
    begins is_slash bytes || starts_with nat_eq bytes (codes "\\/") || path_ends quoted depth bytes

-- What begins here; `after_slash` says that a plain slash is directly before it. A run of stars is strict between such a slash and
-- another or the path's end.
unfoldable pub token_at : Bool → ℕ → Bool → List ℕ → Result (Token × List ℕ) LocalFault
token_at quoted depth after_slash [] = syntax []
token_at quoted depth after_slash (b ∷ bytes) =
    if is_star b then Ok (
      stars (begins is_star bytes) (after_slash && slash_or_end quoted depth (after is_star bytes)),
      after
          is_star bytes,
    )
    else if b == ascii.question_mark then Ok (any_byte, bytes)
    else if b == ascii.open_bracket then (class_at quoted (length (b ∷ bytes)) bytes >>= λ x. Ok (bracket x.0.0 x.0.1, x.1))
    else if is_open_brace b then Ok (opening, bytes)
    else if is_close_brace b then Ok (closing, bytes)
    else if is_comma b && not (depth == 0) then Ok (between, bytes)
    else if b == ascii.backslash then (escaped_at bytes >>= λ x. Ok (byte x.0, x.1))
    else Ok (byte b, bytes)

-- the open braces after a token, which begins with `left` bytes left
abbrev pub braces_behind : Token → ℕ → List ℕ → List ℕ
braces_behind opening left braces = left ∷ braces
braces_behind closing left braces = drop 1 braces
braces_behind between left braces = braces
braces_behind (byte b) left braces = braces
braces_behind any_byte left braces = braces
braces_behind (bracket negated ranges) left braces = braces
braces_behind (stars crosses_slashes strict) left braces = braces

-- at the path's end no brace is open
abbrev pub all_closed : List ℕ → List ℕ → Result (List Token × List ℕ) LocalFault
all_closed [] bytes = Ok ([], bytes)
all_closed (brace ∷ braces) bytes = fault_with_left kinds.Group brace bytes

-- The tokens up to the path's end, at most as many as there is room for. `braces` has the number of bytes left from each open brace
-- on, innermost first.
unfoldable pub tokens_at : Bool → ℕ → List ℕ → Bool → List ℕ → Result (List Token × List ℕ) LocalFault
tokens_at quoted zero braces after_slash bytes =
    goes_on_at quoted (length braces) bytes >>= λ more. if more then fault_here kinds.TooManyItems bytes else all_closed braces bytes
tokens_at quoted (suc room) braces after_slash bytes =
    goes_on_at quoted (length braces) bytes >>= λ more. if more
    then (token_at quoted (length braces) after_slash bytes >>= λ x.
    tokens_at quoted room (braces_behind x.0 (length bytes) braces) (is_plain_slash x.0) x.1 >>= λ others. Ok (x.0 ∷ others.0, others.1))
    else all_closed braces bytes

-- there is no byte here that could be a path's first
abbrev pub no_byte : Bool → List ℕ → Bool
no_byte quoted [] = true
no_byte quoted (b ∷ bytes) = b == 0 || (quoted && b == ascii.line_feed)

-- a path without its quotes; it begins with a slash
unfoldable pub path_in : Bool → List ℕ → Result (List Token × List ℕ) LocalFault
path_in quoted bytes =
    if begins is_slash bytes then tokens_at quoted most_items [] false bytes
    else if no_byte quoted bytes then syntax bytes
    else fault_here kinds.NotAbsolute bytes

-- a path
unfoldable pub path_at : List ℕ → Result (List Token × List ℕ) LocalFault
path_at bytes =
    if begins is_quote bytes then (do
      path ← path_in true (drop 1 bytes)
      rest ← literal (codes "\"") path.1
      Ok (path.0, rest))
    else path_in false bytes
