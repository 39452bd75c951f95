-- What is reported about a denial (our own).
use Rattle.std.specs.Prelude.{ℕ, Bool, true, false, not, ◌==◌, ◌&&◌, ◌||◌, List, [], ◌∷◌, ◌++◌, map}
use Rattle.std.specs.Prelude.{Option, Some, None, if◌then◌else◌, nat_lt}
use Rattle.std.specs.List.{list_any}
use Rattle.names.specs.Ascii as ascii
use Rattle.names.specs.declared.kind.RuleKind.TheVariants.{Allow}
use Rattle.names.specs.declared.permissions.Permission.{Permission}
use Rattle.names.specs.declared.permissions.Permission.TheVariants.{Append}
use Rattle.names.specs.declared.permissions.Perms.{Perms}
use Rattle.names.specs.declared.verdict.Verdict.{Verdict}
use Rattle.names.specs.declared.verdict.Verdict.TheVariants as verdicts
use Rattle.names.specs.Permissions.{all_permissions, conflicts, has, letter, set_of}
use Rattle.audit_log.specs.Denials.{DenialValue}
use Rattle.rule_globs.specs.PlainVerdict.{verdict}
use Rattle.rule_globs.specs.Tokens.{byte}
use Rattle.rule_profile.specs.Profile.{RuleValue}
use Rattle.rule_profile.specs.Readable.{is_rule}
use Rattle.rule_explain.specs.declared.reason.Reason.{Reason}
use Rattle.rule_explain.specs.declared.reason.Reason.TheVariants as reasons
use Rattle.rule_explain.specs.Explanations.{text_of_rule}
use Rattle.rule_explain.specs.Reasons.{reason}
use Rattle.rule_writer.specs.Canonical.{rule_text}
use Rattle.trace_audit.specs.Lookups.{Found, RefusalValue, leads_to, refused, absent}

-- ---- what is asked

-- to create or to remove a file is to write it (security/apparmor/include/file.h: AA_MAY_CREATE and AA_MAY_DELETE are c and d)
abbrev pub asked_letter : ℕ → ℕ
asked_letter b = if b == ascii.letter_c || b == 100 then ascii.letter_w else b

-- the mask asks the permission
abbrev pub asks : List ℕ → Permission → Bool
asks mask p = list_any (λ b. letter p == asked_letter b) mask

-- the permissions that a mask asks; x is none of this language
abbrev pub asked : List ℕ → Perms
asked mask = set_of (asks mask)

abbrev pub asks_nothing : Perms → Bool
asks_nothing ask = not (list_any (has ask) all_permissions)

-- x is among the letters
abbrev pub has_x : List ℕ → Bool
has_x mask = list_any (λ b. b == ascii.letter_x) mask

-- ---- the rule that would allow it

-- write holds append, and a rule has only one of both
abbrev pub is_addable : Perms → Permission → Bool
is_addable perms p = has perms p && not (conflicts perms && (letter p == letter Append))

abbrev pub addable : Perms → Perms
addable perms = set_of (is_addable perms)

-- a rule of exactly this name
abbrev pub rule_of : List ℕ → Perms → RuleValue
rule_of name perms = record { kind = Allow; perms = addable perms; items = map byte name }

abbrev pub is_control : ℕ → Bool
is_control b = nat_lt b ascii.space || b == ascii.delete

-- The rule's text if it can be written on one line, so that it is read again as it is: the name begins with a slash, has at most
-- 1,024 bytes, and no control byte.
abbrev pub added_rule : List ℕ → Perms → Option (List ℕ)
added_rule name perms =
    if is_rule (rule_of name perms) && not (list_any is_control name) then Some (rule_text (rule_of name perms)) else None

-- ---- answers

pub data Answer : Type 0 where
  -- no text has the profile
  no_profile : Answer
  -- nor can this file be imported
  not_imported : RefusalValue → Answer
  -- nothing is asked but x
  not_judged : Answer
  -- by these rules, in the order of the permissions that they allow first
  allowed_by : List ℕ → Answer
  -- by the rule with this number and this text
  denied_by : ℕ → List ℕ → Answer
  -- no rule for these permissions, and the rule that would allow them
  no_rule : Perms → Option (List ℕ) → Answer

-- a number that isn't among the others comes after them
abbrev pub with_number : List ℕ → ℕ → List ℕ
with_number numbers n = if list_any (λ m. m == n) numbers then numbers else numbers ++ (n ∷ [])

abbrev pub with_reason : List ℕ → Reason → List ℕ
with_reason numbers (reasons.Allowed n) = with_number numbers n
with_reason numbers (reasons.Denied n) = numbers
with_reason numbers reasons.NoRule = numbers

-- the rule that allows a permission, if it is asked, after those numbers
abbrev pub with_permission : List RuleValue → List ℕ → Perms → List ℕ → Permission → List ℕ
with_permission rules name ask numbers p = if has ask p then with_reason numbers (reason rules name p) else numbers

-- the same of these permissions
abbrev pub allowing_after : List RuleValue → List ℕ → Perms → List ℕ → List Permission → List ℕ
allowing_after rules name ask numbers [] = numbers
allowing_after rules name ask numbers (p ∷ permissions) =
    allowing_after rules name ask (with_permission rules name ask numbers p) permissions

-- the least rules that allow what is asked
abbrev pub allowing : List RuleValue → List ℕ → Perms → List ℕ
allowing rules name ask = allowing_after rules name ask [] all_permissions

abbrev pub answer_by_verdict : List RuleValue → List ℕ → Perms → Verdict → Answer
answer_by_verdict rules name ask verdicts.Allowed = allowed_by (allowing rules name ask)
answer_by_verdict rules name ask (verdicts.Denied n) = denied_by n (text_of_rule rules n)
answer_by_verdict rules name ask (verdicts.NoRule missing) = no_rule missing (added_rule name missing)

-- by the verdict that `judge` gives on what is asked
abbrev pub answer_by_rules : List RuleValue → List ℕ → Perms → Answer
answer_by_rules rules name ask =
    if asks_nothing ask then not_judged else answer_by_verdict rules name ask (verdict rules name ask)

abbrev pub answer_to : Found → DenialValue → Answer
answer_to (leads_to rules) d = answer_by_rules rules d.name (asked d.mask)
answer_to (refused refusal) d = not_imported refusal
answer_to absent d = no_profile
