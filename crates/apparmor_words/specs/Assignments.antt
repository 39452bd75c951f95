-- Where an assignment to a variable begins, and what separates its values (apparmor.d(5), "Variables").
use Rattle.std.specs.Prelude.{ℕ, List, [], ◌∷◌, length, codes, Option, Some, None, Bool, true, false, not, ◌&&◌, ◌||◌, ◌==◌, if◌then◌else◌}
use Rattle.std.specs.Prelude.{drop, nat_eq}
use Rattle.std.specs.List.{starts_with}
use Rattle.names.specs.Ascii as ascii
use Rattle.rule_reader.specs.TextBytes.{begins, is_white}
use Rattle.rule_reader.specs.ReadWords.{word, after_word, after}
use Rattle.apparmor_words.specs.Statements.{is_space}

-- what is left after @{NAME}, if it is at the front
abbrev pub past_use : List ℕ → Option (List ℕ)
past_use bytes =
    if starts_with nat_eq bytes (codes "@{") && not (length (word (drop 2 bytes)) == 0) && begins (λ b. b == ascii.close_brace)
    (after_word (drop 2 bytes))
    then Some (drop 1 (after_word (drop 2 bytes)))
    else None

-- = or +=
abbrev pub is_operator : List ℕ → Bool
is_operator bytes = starts_with nat_eq bytes (codes "=") || starts_with nat_eq bytes (codes "+=")

-- @{NAME}, optional whitespace, and an operator
abbrev pub is_assignment : List ℕ → Bool
is_assignment bytes = elim (past_use bytes) [ Some rest ↦ is_operator (after is_white rest) | None ↦ false ]

-- space, tab and CR
abbrev pub is_separator : ℕ → Bool
is_separator b = is_space b || b == ascii.carriage_return

-- what separates values: these, and line feeds preceded by a backslash
abbrev pub past_separators : List ℕ → List ℕ
past_separators [] = []
past_separators (b ∷ []) = if is_separator b then [] else b ∷ []
past_separators (b ∷ c ∷ bytes) =
    if is_separator b then past_separators (c ∷ bytes)
    else if b == ascii.backslash && c == ascii.line_feed then past_separators bytes
    else b ∷ c ∷ bytes

-- the line ends here
abbrev pub line_ends : List ℕ → Bool
line_ends [] = true
line_ends (b ∷ bytes) = b == ascii.line_feed
