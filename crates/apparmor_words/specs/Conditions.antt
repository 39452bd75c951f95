-- The contents of the head of a profile besides its names: extended attributes and flags (apparmor.d(5), "Format").
use Rattle.std.specs.Prelude.{ℕ, List, [], ◌∷◌, codes, Result, Ok, Option, Bool, true, false, not, ◌&&◌, ◌||◌, ◌==◌}
use Rattle.std.specs.Prelude.{if◌then◌else◌, find, nat_eq}
use Rattle.std.specs.List.{list_any, starts_with}
use Rattle.names.specs.Ascii as ascii
use Rattle.rule_reader.specs.TextBytes.{is_white, is_quote, is_comma}
use Rattle.rule_reader.specs.ReadWords.{leading, after}
use Rattle.apparmor_words.specs.Steps.{Stop, ◌>>=◌, syntax_here}
use Rattle.apparmor_words.specs.declared.words.Quoted.{Quoted}
use Rattle.apparmor_words.specs.Statements.{is_one_of, past_byte}
use Rattle.apparmor_words.specs.Words.{behind_byte, is_doubtful_quote, quote_opened}

-- ---- conditions: xattrs=( .. ), flags=( .. ), and flags without the word

-- After an opening parenthesis, within quotes or not, and after these backslashes: what is left after the closing one. No quote is
-- in doubt.
abbrev pub parentheses_at : Bool → Quoted → List ℕ → Result (List ℕ) Stop
parentheses_at quoted before [] = syntax_here []
parentheses_at quoted before (b ∷ bytes) =
    if b == 0 || (quoted && b == ascii.line_feed) || (is_quote b && is_doubtful_quote before bytes) then syntax_here (b ∷ bytes)
    else if b == ascii.close_parenthesis && not quoted then Ok bytes
    else parentheses_at (if is_quote b && not before.escaped then not quoted else quoted) (behind_byte before b) bytes

abbrev pub past_parentheses : List ℕ → Result (List ℕ) Stop
past_parentheses bytes = past_byte ascii.open_parenthesis bytes >>= λ inside. parentheses_at false quote_opened inside

-- =, possibly surrounded by whitespace, and parentheses
abbrev pub past_condition : List ℕ → Result (List ℕ) Stop
past_condition bytes = past_byte ascii.equals (after is_white bytes) >>= λ rest. past_parentheses (after is_white rest)

-- what separates flags, including their parentheses
abbrev pub parts_flags : ℕ → Bool
parts_flags b = is_white b || is_comma b || b == ascii.open_parenthesis || b == ascii.close_parenthesis

-- Flags that allow what no rule allows; and flags that don't, some of them with a value, in which there are no quotes: the signal of kill,
-- the number of the error that a refusal gives, and where paths begin that lead to no root (apparmor.d(5) of AppArmor 4.1, "Profile
-- Head").
abbrev pub allowing_flags : List (List ℕ)
allowing_flags = codes "complain" ∷ codes "unconfined" ∷ codes "default_allow" ∷ codes "prompt" ∷ []

abbrev pub other_flags : List (List ℕ)
other_flags =
    codes "enforce" ∷ codes "kill" ∷ codes "audit" ∷ codes "attach_disconnected" ∷ codes "no_attach_disconnected"
    ∷ codes "mediate_deleted" ∷ codes "delegate_deleted" ∷ codes "chroot_relative" ∷ codes "namespace_relative"
    ∷ codes "chroot_attach" ∷ codes "chroot_no_attach" ∷ codes "debug" ∷ codes "interruptible" ∷ []

abbrev pub valued_flags : List (List ℕ)
valued_flags = codes "kill.signal=" ∷ codes "error=" ∷ codes "attach_disconnected.path=" ∷ []

-- the word begins with one of these
abbrev pub begins_with_one_of : List (List ℕ) → List ℕ → Bool
begins_with_one_of fronts w = list_any (λ front. starts_with nat_eq w front) fronts

-- A flag with a value. A quote would end the value, and begin another flag.
abbrev pub is_valued_flag : List ℕ → Bool
is_valued_flag w = begins_with_one_of valued_flags w && not (list_any is_quote w)

abbrev pub is_flag : List ℕ → Bool
is_flag w = is_one_of allowing_flags w || is_one_of other_flags w || is_valued_flag w

-- a byte of a flag
abbrev pub is_flag_byte : ℕ → Bool
is_flag_byte b = not (parts_flags b)

-- The flags of these bytes, directly after a separator or not: one begins at each flag byte directly after a separator.
abbrev pub flags_at : Bool → List ℕ → List (List ℕ)
flags_at begins [] = []
flags_at begins (b ∷ bytes) =
    if begins && is_flag_byte b then leading is_flag_byte (b ∷ bytes) ∷ flags_at false bytes else flags_at (parts_flags b) bytes

-- the flags of a list, with or without the word flags before it
abbrev pub flags_of : List ℕ → List (List ℕ)
flags_of bytes = flags_at true (after (λ b. not (b == ascii.open_parenthesis)) bytes)

-- the first flag that is not known
abbrev pub unknown_flag : List ℕ → Option (List ℕ)
unknown_flag bytes = find (λ w. not (is_flag w)) (flags_of bytes)
