-- What a file rule of a flattened text says, by its parts (apparmor.d(5), "Rule Qualifiers", "Access Modes").
use Rattle.std.specs.Prelude.{ℕ, ◌-◌, List, [], ◌∷◌, length, take, drop, not, ◌==◌, Option, Some, None, option_map, find, Bool, true}
use Rattle.std.specs.Prelude.{false, ◌&&◌, ◌||◌, if◌then◌else◌}
use Rattle.std.specs.List.{list_any}
use Rattle.names.specs.Ascii as ascii
use Rattle.names.specs.declared.permissions.Permission.TheVariants.{Link}
use Rattle.names.specs.declared.permissions.Perms.{Perms}
use Rattle.names.specs.Permissions.{has, only, set_of}
use Rattle.rule_reader.specs.TextBytes.{begins, is_white, is_hash, is_quote}
use Rattle.names.specs.declared.kind.RuleKind.{RuleKind}
use Rattle.names.specs.declared.kind.RuleKind.TheVariants.{Allow, Deny}
use Rattle.apparmor_words.specs.declared.letters.Letters.{Letters}
use Rattle.apparmor_words.specs.Letters.{no_letters, letters_of}
use Rattle.apparmor_rules.specs.Priorities.{priority_of_text}
use Rattle.apparmor_rules.specs.SubjectRules.{Priority, no_priority}
use Rattle.apparmor_text.specs.declared.part.PartKind.{PartKind}
use Rattle.apparmor_text.specs.declared.part.PartKind.TheVariants as kinds
use Rattle.apparmor_text.specs.Parts.{PartValue}
use Rattle.apparmor_rules.specs.declared.subject.AppliesTo.{AppliesTo}
use Rattle.apparmor_rules.specs.declared.subject.AppliesTo.TheVariants.{Everybody, Owners, Others}

-- ---- words

-- a word without its quotes
abbrev pub content : List ℕ → List ℕ
content bytes = if begins is_quote bytes then take (length bytes - 2) (drop 1 bytes) else bytes

-- the bytes of the first part of such a kind
abbrev pub first_bytes : (PartKind → Bool) → List PartValue → Option (List ℕ)
first_bytes test parts = option_map (λ p. p.bytes) (find (λ p. test p.kind) parts)

-- there is a part of such a kind
abbrev pub has_part : (PartKind → Bool) → List PartValue → Bool
has_part test parts = list_any (λ p. test p.kind) parts

abbrev pub is_deny : PartKind → Bool
is_deny kinds.Deny = true
is_deny _ = false

abbrev pub is_owner : PartKind → Bool
is_owner kinds.Owner = true
is_owner _ = false

abbrev pub is_other : PartKind → Bool
is_other kinds.Other = true
is_other _ = false

abbrev pub is_priority : PartKind → Bool
is_priority kinds.Priority = true
is_priority _ = false

abbrev pub is_link : PartKind → Bool
is_link kinds.Link = true
is_link _ = false

abbrev pub is_path : PartKind → Bool
is_path kinds.Path = true
is_path _ = false

abbrev pub is_permissions : PartKind → Bool
is_permissions kinds.Permissions = true
is_permissions _ = false

abbrev pub is_arrow_part : PartKind → Bool
is_arrow_part kinds.Arrow = true
is_arrow_part _ = false

-- ---- what the rule says

abbrev pub kind_of : List PartValue → RuleKind
kind_of parts = if has_part is_deny parts then Deny else Allow

abbrev pub applies_to_of : List PartValue → AppliesTo
applies_to_of parts = if has_part is_owner parts then Owners else if has_part is_other parts then Others else Everybody

-- 0 unless the rule says one
abbrev pub priority_of : List PartValue → Priority
priority_of parts = elim (first_bytes is_priority parts) [ None ↦ no_priority | Some bytes ↦ priority_of_text bytes ]

-- the path's text; the word file by itself has none
abbrev pub path_of : List PartValue → Option (List ℕ)
path_of parts = option_map content (first_bytes is_path parts)

-- the letters that are written
abbrev pub letters_in : List PartValue → Letters
letters_in parts = elim (first_bytes is_permissions parts) [
  | None ↦ no_letters
  | Some word ↦ elim (letters_of word) [ None ↦ no_letters | Some letters ↦ letters ]
]

-- with no letters written, the word link stands for link, and the word file by itself for everything
abbrev pub perms_of_rule : List PartValue → Perms
perms_of_rule parts =
    if has_part is_link parts then only Link
    else if has_part is_permissions parts then (letters_in parts).perms
    else set_of (λ p. true)

-- the permissions come before the path
abbrev pub permissions_lead : List PartValue → Bool
permissions_lead [] = false
permissions_lead (p ∷ parts) = if is_path p.kind then false else is_permissions p.kind || permissions_lead parts

-- An arrow binds link if the word link comes before it, or letters with l and then the path. Otherwise it says what an execution
-- leads to, and nothing about files.
abbrev pub may_bind_link : List PartValue → Bool
may_bind_link parts = has_part is_link parts || (permissions_lead parts && has (perms_of_rule parts) Link)

-- what follows white space and comments, within a comment or not
abbrev pub past_blank : Bool → List ℕ → List ℕ
past_blank comment [] = []
past_blank true (b ∷ bytes) = past_blank (not (b == ascii.line_feed)) bytes
past_blank false (b ∷ bytes) =
    if is_white b then past_blank false bytes else if is_hash b then past_blank true bytes else b ∷ bytes

-- the word after an arrow, which a blank may precede
abbrev pub target_text : List ℕ → List ℕ
target_text arrow = content (past_blank false (drop 2 arrow))

-- what it binds link to
abbrev pub target_of : List PartValue → Option (List ℕ)
target_of parts = if may_bind_link parts then option_map target_text (first_bytes is_arrow_part parts) else None
