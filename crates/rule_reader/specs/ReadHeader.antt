-- Reading what comes before a profile's rules (apparmor.d(5), "Format").
use Rattle.std.specs.Prelude.{ℕ, List, length, codes, Result, Ok, Bool, false, ◌||◌, ◌==◌, if◌then◌else◌, drop, nat_eq}
use Rattle.std.specs.List.{starts_with}
use Rattle.names.specs.Ascii as ascii
use Rattle.rule_reader.specs.declared.reader.local_fault.FaultKind.TheVariants as kinds
use Rattle.rule_reader.specs.declared.reader.local_fault.LocalFault.{LocalFault}
use Rattle.rule_globs.specs.Glob.{is_slash}
use Rattle.rule_profile.specs.Limits.{longest_profile_name}
use Rattle.rule_reader.specs.ReadSteps.{◌>>=◌, fault_here, syntax}
use Rattle.rule_reader.specs.TextBytes.{begins, is_quote, is_comma, is_hash, is_open_brace, is_close_brace}
use Rattle.rule_reader.specs.ReadWords.{gap, word, after_word, is_word, word_left_out, name_in, quoted_name}

-- a name that begins with a slash, byte 47: in quotes, the byte after the quote
unfoldable pub slash_name_at : ℕ → List ℕ → Result (List ℕ × List ℕ) LocalFault
slash_name_at room bytes =
    if begins is_slash bytes then name_in false room bytes
    else if begins is_quote bytes then (if begins is_slash (drop 1 bytes) then quoted_name room (drop 1 bytes) else syntax (drop 1 bytes))
    else syntax bytes

-- :
abbrev pub is_colon : ℕ → Bool
is_colon b = b == ascii.colon

-- a bare name begins with none of these
abbrev pub begins_no_name : ℕ → Bool
begins_no_name b = is_open_brace b || is_close_brace b || is_comma b || is_hash b

-- a name after the word profile; one that begins with a colon belongs to a namespace
unfoldable pub name_at : List ℕ → Result (List ℕ × List ℕ) LocalFault
name_at bytes =
    if begins is_quote bytes then (if begins is_colon (drop 1 bytes) then fault_here (kinds.LeftOut 1) (drop 1 bytes) else quoted_name
    longest_profile_name (drop 1 bytes))
    else if begins is_colon bytes then fault_here (kinds.LeftOut 1) bytes
    else if begins begins_no_name bytes then syntax bytes
    else name_in false longest_profile_name bytes

-- an attachment, if there is one here, and the blank after it. It is not kept, and may have any length (our choice)
unfoldable pub attachment_at : List ℕ → Result (List ℕ) LocalFault
attachment_at bytes =
    if begins is_slash bytes || begins is_quote bytes then (slash_name_at (length bytes) bytes >>= λ x. gap x.1)
    else Ok bytes

-- the brace that opens the rules
unfoldable pub brace_at : List ℕ → Result (List ℕ) LocalFault
brace_at bytes =
    if begins is_open_brace bytes then Ok (drop 1 bytes)
    else if starts_with nat_eq bytes (codes "flags=") then fault_here (kinds.LeftOut 5) bytes
    else if starts_with nat_eq bytes (codes "xattrs=") then fault_here (kinds.LeftOut 6) bytes
    else if begins (λ b. b == ascii.open_parenthesis) bytes then fault_here (kinds.LeftOut 1) bytes
    else syntax bytes

-- profile NAME {, or with an attachment
unfoldable pub named_header_at : List ℕ → Result (List ℕ × List ℕ) LocalFault
named_header_at bytes = do
  from ← gap (after_word bytes)
  name ← name_at from
  behind ← gap name.1
  brace ← attachment_at behind
  inside ← brace_at brace
  Ok (name.0, inside)

-- /NAME {
unfoldable pub slash_header_at : List ℕ → Result (List ℕ × List ℕ) LocalFault
slash_header_at bytes = do
  name ← slash_name_at longest_profile_name bytes
  brace ← gap name.1
  inside ← brace_at brace
  Ok (name.0, inside)

-- The name, and what is left after the opening brace. What else is allowed here is not supported: a word (a rule outside a profile,
-- a preamble) or a variable.
unfoldable pub header_at : List ℕ → Result (List ℕ × List ℕ) LocalFault
header_at bytes =
    if is_word (codes "profile") bytes then named_header_at bytes
    else if begins is_slash bytes || begins is_quote bytes then slash_header_at bytes
    else if length (word bytes) == 0 then (if begins (λ b. b == ascii.at_sign) bytes then fault_here (kinds.LeftOut 1) bytes
    else syntax bytes)
    else word_left_out bytes
