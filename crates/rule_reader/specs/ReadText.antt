-- Reading a text from left to right, to its end or to the first fault: rules, and the whole text.
use Rattle.std.specs.Prelude.{ℕ, zero, suc, List, [], ◌∷◌, length, codes, Bool, Option, Some, None, Result, Ok, Err, ◌||◌, ◌==◌}
use Rattle.std.specs.Prelude.{if◌then◌else◌, drop}
use Rattle.std.specs.List.{list_all, list_any}
use Rattle.names.specs.Ascii as ascii
use Rattle.names.specs.declared.permissions.Perms.{Perms}
use Rattle.names.specs.Permissions.{perms_of, conflicts}
use Rattle.rule_reader.specs.declared.fault.ReadFault.{ReadFault}
use Rattle.names.specs.declared.kind.RuleKind.{RuleKind}
use Rattle.names.specs.declared.kind.RuleKind.TheVariants.{Allow, Deny}
use Rattle.rule_reader.specs.declared.reader.local_fault.FaultKind.TheVariants as kinds
use Rattle.rule_reader.specs.declared.reader.local_fault.LocalFault.{LocalFault}
use Rattle.rule_globs.specs.Glob.{is_slash}
use Rattle.rule_profile.specs.Profile.{RuleValue, ProfileValue}
use Rattle.rule_profile.specs.Limits.{most_rules}
use Rattle.rule_reader.specs.ReadHeader.{header_at}
use Rattle.rule_reader.specs.ReadPaths.{path_at}
use Rattle.rule_reader.specs.ReadSteps.{◌>>=◌, fault_here, fault_with_left, syntax, fault_of}
use Rattle.rule_reader.specs.ReadWords.{blank, gap, word, after_word, is_word, fault_of_word, word_left_out}
use Rattle.rule_reader.specs.TextBytes.{begins, is_quote, is_comma, is_close_brace, is_arrow}
use Rattle.rule_globs.specs.Tokens.{Token}

-- ---- permissions (apparmor.d(5), "Access Modes")

-- a letter of the access modes that file rules have, including those that are not supported
abbrev pub is_mode : ℕ → Bool
is_mode b = list_any (λ mode. mode == b) (codes "rwlkmaxipcuPCU")

-- The permissions after a path, of which no two conflict. A word of access modes of which some are not supported is left out as a
-- whole.
unfoldable pub perms_at : List ℕ → Result (Perms × List ℕ) LocalFault
perms_at bytes =
    if begins is_comma bytes then fault_here kinds.EmptyPermissions bytes
    else if is_arrow bytes then fault_here (kinds.LeftOut 2) bytes
    else if length (word bytes) == 0 then syntax bytes
    else elim (perms_of (word bytes)) [
      | Some perms ↦ if conflicts perms then fault_of_word kinds.Conflict bytes else Ok (perms, after_word bytes)
      | None ↦ if list_all is_mode (word bytes) then word_left_out bytes else fault_of_word kinds.Permission bytes
    ]

-- a gap and the permissions, directly after a path. A bare path ends at a comma only because of the byte after the comma
unfoldable pub perms_behind : List ℕ → Result (Perms × List ℕ) LocalFault
perms_behind bytes =
    if begins is_comma bytes then fault_with_left kinds.EmptyPermissions (length bytes) (drop 1 bytes)
    else (gap bytes >>= λ from. perms_at from)

-- ---- rules

-- The qualifier that a rule begins with, and what follows its word; none if there is no qualifier. The word all is a rule of its
-- own there, which is not supported (apparmor.d(5) of AppArmor 4.1, "Format"); after a qualifier it is permissions (our choice).
unfoldable pub first_word_at : List ℕ → Result (Option (RuleKind × List ℕ)) LocalFault
first_word_at bytes =
    if is_word (codes "allow") bytes then Ok (Some (Allow, after_word bytes))
    else if is_word (codes "deny") bytes then Ok (Some (Deny, after_word bytes))
    else if is_word (codes "all") bytes then word_left_out bytes
    else Ok None

-- what the rule does: its qualifier and the gap after it; without a qualifier the rule allows
unfoldable pub qualifier_at : List ℕ → Result (RuleKind × List ℕ) LocalFault
qualifier_at bytes =
    first_word_at bytes >>= λ first. elim first [
      | Some qualifier ↦ gap qualifier.1 >>= λ from. Ok (qualifier.0, from)
      | None ↦ Ok (Allow, bytes)
    ]

-- What follows the qualifier: none for a path, or permissions. Other words, variables (@), hats (^) and $ are not
-- supported.
unfoldable pub start_at : List ℕ → Result (Option (Perms × List ℕ)) LocalFault
start_at bytes =
    if begins is_slash bytes || begins is_quote bytes then Ok None
    else if length (word bytes) == 0 then (if begins (λ b. b == ascii.at_sign || b == ascii.caret || b == ascii.dollar) bytes
    then fault_here (kinds.LeftOut 1)
    bytes else syntax bytes)
    else elim (perms_of (word bytes)) [ Some perms ↦ Ok (Some (perms, after_word bytes)) | None ↦ word_left_out bytes ]

-- the comma that ends a rule
unfoldable pub comma_at : List ℕ → Result (List ℕ) LocalFault
comma_at bytes =
    blank bytes >>= λ at.
    if begins is_comma at then Ok (drop 1 at) else if is_arrow at then fault_here (kinds.LeftOut 2) at else syntax at

-- PATH PERMISSIONS, or PERMISSIONS PATH. Permissions of which two conflict are a fault at their word, before the gap after it is
-- read (our choice).
unfoldable pub body_at : List ℕ → Result ((Perms × List Token) × List ℕ) LocalFault
body_at bytes =
    start_at bytes >>= λ start. elim start [
      | None ↦ (do
        path ← path_at bytes
        perms ← perms_behind path.1
        Ok ((perms.0, path.0), perms.1))
      | Some perms ↦ if conflicts perms.0 then fault_with_left kinds.Conflict (length bytes) perms.1 else (do
        from ← gap perms.1
        path ← path_at from
        Ok ((perms.0, path.0), path.1))
    ]

unfoldable pub rule_at : List ℕ → Result (RuleValue × List ℕ) LocalFault
rule_at bytes = do
  kind ← qualifier_at bytes
  body ← body_at kind.1
  past ← comma_at body.1
  Ok (record { kind = kind.0; perms = body.0.0; items = body.0.1 }, past)

-- a rule begins here; anything else is a fault
unfoldable pub rule_begins : List ℕ → Result (Unit {0}) LocalFault
rule_begins bytes =
    first_word_at bytes >>= λ first. elim first [
      | Some qualifier ↦ Ok tt
      | None ↦ start_at bytes >>= λ start. Ok tt
    ]

-- the rules up to the closing brace, at most as many as there is room for
unfoldable pub rules_at : ℕ → List ℕ → Result (List RuleValue × List ℕ) LocalFault
rules_at zero bytes =
    if begins is_close_brace bytes then Ok ([], drop 1 bytes)
    else (rule_begins bytes >>= λ _. fault_here kinds.TooManyRules bytes)
rules_at (suc room) bytes =
    if begins is_close_brace bytes then Ok ([], drop 1 bytes)
    else (rule_at bytes >>= λ first. blank first.1 >>= λ from. rules_at room from >>= λ others. Ok (first.0 ∷ others.0, others.1))

-- ---- texts (apparmor.d(5), "Format")

-- nothing is left
abbrev pub end_at : List ℕ → Result (Unit {0}) LocalFault
end_at [] = Ok tt
end_at (b ∷ bytes) = syntax (b ∷ bytes)

-- a whole text
unfoldable pub text_at : List ℕ → Result ProfileValue LocalFault
text_at bytes = do
  from ← blank bytes
  name ← header_at from
  inside ← blank name.1
  rules ← rules_at most_rules inside
  past ← blank rules.1
  all ← end_at past
  Ok (record { name = name.0; rules = rules.0 })

-- the outcome of reading a text, memory aside: its profile or its first fault
unfoldable pub outcome_of : List ℕ → Result ProfileValue ReadFault
outcome_of text = elim (text_at text) [ Ok p ↦ Ok p | Err s ↦ Err (fault_of (length text) s) ]
