-- Statements, i.e. the rules of a profile that aren't about files (apparmor.d(5), "Format"), and where each ends. The page says that a
-- comma ends a rule, and not which commas belong to a word; AppArmor's parser (4.1.0) takes the longest word.
use Rattle.std.specs.Prelude.{ℕ, ◌-◌, ◌+◌, List, [], ◌∷◌, length, codes, Result, Ok, Option, Some, None, Bool, true, false, not, ◌&&◌}
use Rattle.std.specs.Prelude.{◌||◌, ◌==◌, if◌then◌else◌, drop}
use Rattle.std.specs.List.{list_any}
use Rattle.std.specs.Str.{bytes_eq}
use Rattle.names.specs.Ascii as ascii
use Rattle.rule_reader.specs.TextBytes.{begins, is_white, is_hash, is_include, is_quote, is_comma, is_close_brace, is_open_brace}
use Rattle.rule_reader.specs.ReadWords.{word, after_word, after}
use Rattle.apparmor_words.specs.declared.words.Quoted.{Quoted}
use Rattle.apparmor_words.specs.declared.statement.Within.{Within}
use Rattle.apparmor_words.specs.declared.statement.Within.TheVariants.{Keyword, Apart, White, BeforeValue, Word}
use Rattle.apparmor_words.specs.declared.statement.Within.TheVariants.{Equals, Arrow, Parenthesis}
use Rattle.apparmor_words.specs.declared.statement.Within.TheVariants.{Backslash, Quotes, Comment}
use Rattle.apparmor_words.specs.declared.statement.Unclosed.{Unclosed}
use Rattle.apparmor_words.specs.Steps.{Stop, include, ◌>>=◌, fault_here, syntax_here}
use Rattle.apparmor_words.specs.Words.{comma_ends, is_doubtful, quote_opened, quoted_step}

-- the words that statements begin with
abbrev pub statement_words : List (List ℕ)
statement_words =
    codes "abi" ∷ codes "capability" ∷ codes "network" ∷ codes "mount" ∷ codes "remount" ∷ codes "umount" ∷ codes "pivot_root"
    ∷ codes "signal" ∷ codes "ptrace" ∷ codes "dbus" ∷ codes "unix" ∷ codes "set" ∷ codes "change_profile" ∷ codes "userns"
    ∷ codes "mqueue" ∷ codes "io_uring" ∷ []

abbrev pub is_one_of : List (List ℕ) → List ℕ → Bool
is_one_of words w = list_any (λ known. bytes_eq w known) words

-- a statement begins here
abbrev pub is_statement : List ℕ → Bool
is_statement bytes = is_one_of statement_words (word bytes)

-- What follows a comma that ends a statement after any word: whitespace or the text's end.
abbrev pub ends_statement : List ℕ → Bool
ends_statement [] = true
ends_statement (b ∷ bytes) = is_white b

-- no parenthesis and no brace is open, and the keyword has ended
abbrev pub nothing_open : Unclosed
nothing_open = record { parentheses = 0; braces = 0; within = Keyword }

-- the same parentheses and braces are open, and this is the context of the next byte
abbrev pub still : Unclosed → Within → Unclosed
still unclosed within = record { parentheses = unclosed.parentheses; braces = unclosed.braces; within = within }

abbrev pub is_none_open : ℕ → Bool
is_none_open count = count == 0

-- after whitespace: a value may begin here if what is before it is = or ->
abbrev pub behind_white : Within → Within
behind_white Equals = BeforeValue
behind_white Arrow = BeforeValue
behind_white BeforeValue = BeforeValue
behind_white _ = White

-- Here a comma ends the statement whatever follows it: no word is open that it could belong to.
abbrev pub is_word_over : Within → Bool
is_word_over Keyword = true
is_word_over Apart = true
is_word_over White = true
is_word_over BeforeValue = true
is_word_over _ = false

-- An opening parenthesis may be here: after the keyword, whitespace, = or another one.
abbrev pub may_open : Within → Bool
may_open Keyword = true
may_open White = true
may_open BeforeValue = true
may_open Equals = true
may_open Parenthesis = true
may_open _ = false

-- whitespace, which braces hold only within parentheses
abbrev pub white_step : Unclosed → List ℕ → Result (Option Unclosed) Stop
white_step unclosed here =
    if not (is_none_open unclosed.braces) && is_none_open unclosed.parentheses then syntax_here here
    else Ok (Some (still unclosed (behind_white unclosed.within)))

-- A # opens a comment after whitespace, and is a byte of a word otherwise; AppArmor's parser may read it either way where a value
-- begins, or where a word has just ended.
abbrev pub hash_step : Unclosed → List ℕ → Result (Option Unclosed) Stop
hash_step unclosed here = elim unclosed.within [
  | White ↦ if is_include here then fault_here include here else Ok (Some (still unclosed Comment))
  | BeforeValue ↦ syntax_here here
  | Keyword ↦ syntax_here here
  | Apart ↦ syntax_here here
  | _ ↦ Ok (Some (still unclosed Word))
]

-- A comma, before these bytes. Outside of parentheses and braces it ends the statement, or AppArmor's parser may read it either way. In
-- them it belongs to a word, unless it is in doubt there.
abbrev pub comma_step : Unclosed → ℕ → List ℕ → Result (Option Unclosed) Stop
comma_step unclosed b bytes =
    if is_none_open unclosed.parentheses && is_none_open unclosed.braces
    then (if ends_statement bytes || is_word_over unclosed.within then Ok None else syntax_here (b ∷ bytes))
    else if begins (λ c. c == ascii.backslash) bytes || (is_none_open unclosed.parentheses && comma_ends bytes)
    then syntax_here (b ∷ bytes)
    else Ok (Some (still unclosed Word))

-- A parenthesis or a brace, at these bytes. An unmatched closing one is a fault.
abbrev pub bracket_step : Unclosed → ℕ → List ℕ → Result (Option Unclosed) Stop
bracket_step unclosed b here =
    if b == ascii.open_parenthesis then (if not (may_open unclosed.within) then syntax_here here
    else Ok (Some (record { parentheses = unclosed.parentheses + 1; braces = unclosed.braces; within = Parenthesis })))
    else if b == ascii.close_parenthesis then (if is_none_open unclosed.parentheses then syntax_here here
    else Ok (Some (record { parentheses = unclosed.parentheses - 1; braces = unclosed.braces; within = Apart })))
    else if is_open_brace b then Ok (Some (record { parentheses = unclosed.parentheses; braces = unclosed.braces + 1; within = Word }))
    else (if is_none_open unclosed.braces then syntax_here here
    else Ok (Some (record { parentheses = unclosed.parentheses; braces = unclosed.braces - 1; within = Word })))

abbrev pub is_bracket : ℕ → Bool
is_bracket b = b == ascii.open_parenthesis || b == ascii.close_parenthesis || is_open_brace b || is_close_brace b

-- a byte of a word: = and the > of an arrow matter to the next one
abbrev pub within_word : ℕ → Within
within_word b = if b == ascii.equals then Equals else if b == ascii.greater_than then Arrow else Word

-- One byte outside of quotes and comments that no backslash takes, before others: what is open after it. None if it ends the statement.
abbrev pub plain_step : Unclosed → ℕ → List ℕ → Result (Option Unclosed) Stop
plain_step unclosed b bytes =
    if b == 0 then syntax_here (b ∷ bytes)
    else if is_white b then white_step unclosed (b ∷ bytes)
    else if b == ascii.backslash then (if is_doubtful b bytes then syntax_here (b ∷ bytes) else Ok (Some (still unclosed Backslash)))
    else if is_quote b then Ok (Some (still unclosed (Quotes quote_opened)))
    else if is_hash b then hash_step unclosed (b ∷ bytes)
    else if is_comma b then comma_step unclosed b bytes
    else if is_bracket b then bracket_step unclosed b (b ∷ bytes)
    else Ok (Some (still unclosed (within_word b)))

-- after a byte of a word in quotes, or after the quote that ends it
abbrev pub within_quotes : Option Quoted → Within
within_quotes None = Apart
within_quotes (Some before) = Quotes before

-- One byte, in any context. A comment extends to the next LF; a backslash belongs with the byte after it.
abbrev pub statement_step : Unclosed → ℕ → List ℕ → Result (Option Unclosed) Stop
statement_step unclosed b bytes = elim unclosed.within [
  | Quotes before ↦ quoted_step before b bytes >>= λ next. Ok (Some (still unclosed (within_quotes next)))
  | Comment ↦ Ok (Some (still unclosed (if b == ascii.line_feed then White else Comment)))
  | Backslash ↦ if b == 0 then syntax_here (b ∷ bytes) else Ok (Some (still unclosed Word))
  | _ ↦ plain_step unclosed b bytes
]

-- what is left after a statement of which this much is open
abbrev pub statement_at : Unclosed → List ℕ → Result (List ℕ) Stop
statement_at unclosed [] = syntax_here []
statement_at unclosed (b ∷ bytes) = statement_step unclosed b bytes >>= λ next. elim next
    [ None ↦ Ok bytes | Some o ↦ statement_at o bytes ]

-- ---- booleans: $NAME = WORD or ${NAME} = WORD, on one line

-- space and tab
abbrev pub is_space : ℕ → Bool
is_space b = b == ascii.space || b == ascii.tab

-- what is left after a word of letters, digits and _ at the front
abbrev pub past_word : List ℕ → Result (List ℕ) Stop
past_word bytes = if length (word bytes) == 0 then syntax_here bytes else Ok (after_word bytes)

-- what is left after a statement, whose keyword is here
abbrev pub statement_end : List ℕ → Result (List ℕ) Stop
statement_end bytes = past_word bytes >>= λ rest. statement_at nothing_open rest

-- this byte
abbrev pub past_byte : ℕ → List ℕ → Result (List ℕ) Stop
past_byte b bytes = if begins (λ c. c == b) bytes then Ok (drop 1 bytes) else syntax_here bytes

-- =, and spaces before and after it
abbrev pub past_equals : List ℕ → Result (List ℕ) Stop
past_equals bytes = past_byte ascii.equals (after is_space bytes) >>= λ rest. Ok (after is_space rest)

-- NAME or {NAME} (123)
abbrev pub past_boolean_name : List ℕ → Result (List ℕ) Stop
past_boolean_name bytes =
    if begins is_open_brace bytes then (past_word (drop 1 bytes) >>= λ rest. past_byte ascii.close_brace rest) else past_word bytes

-- after the $
abbrev pub boolean_at : List ℕ → Result (List ℕ) Stop
boolean_at bytes = past_boolean_name bytes >>= λ name. past_equals name >>= λ value. past_word value
