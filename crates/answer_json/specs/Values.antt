-- Answers as JSON values. The members of an object are in the order of their keys.
use Rattle.std.specs.Prelude.{ℕ, List, [], ◌∷◌, Option, Some, None, codes, filter, map, if◌then◌else◌}
use Rattle.std.specs.Str.{is_utf8}
use Rattle.names.specs.declared.permissions.Permission.{Permission}
use Rattle.names.specs.declared.permissions.Perms.{Perms}
use Rattle.names.specs.declared.verdict.Verdict.{Verdict}
use Rattle.names.specs.declared.verdict.Verdict.TheVariants as verdicts
use Rattle.names.specs.Permissions.{all_permissions, has, letter, letters}
use Rattle.rule_globs.specs.PlainVerdict.{verdict}
use Rattle.rule_profile.specs.declared.profile.Span.{Span}
use Rattle.rule_profile.specs.Profile.{RuleValue}
use Rattle.rule_explain.specs.declared.reason.Reason.{Reason}
use Rattle.rule_explain.specs.declared.reason.Reason.TheVariants as reasons
use Rattle.rule_explain.specs.Explanations.{line_of_rule, text_of_rule}
use Rattle.rule_explain.specs.Reasons.{reason}
use Rattle.serde_json.specs.Data.{Data, null, number, unsigned, string, array, object, member, no_members}
use Rattle.serde_json.specs.View.{items_of}

abbrev pub number_value : ℕ → Data
number_value n = number (unsigned n)

abbrev pub number_or_null : Option ℕ → Data
number_or_null None = null
number_or_null (Some n) = number_value n

-- a name, or the text of a rule: a string if the bytes are UTF-8, otherwise an array of their numbers
abbrev pub name_value : List ℕ → Data
name_value bytes = if is_utf8 bytes then string bytes else array (items_of (map number_value bytes))

-- ---- rules and reasons

-- {"line":7,"number":3,"text":"\"/home/*/**\" rw,"}: the rule with this number, where it is in the text, and how it is written
abbrev pub rule_object : List ℕ → List RuleValue → List Span → ℕ → Data
rule_object text rules spans n = object
    (member (codes "line") (number_value (line_of_rule text spans n))
    (member (codes "number") (number_value n)
    (member (codes "text") (name_value (text_of_rule rules n)) no_members)))

-- the rule that a reason names
abbrev pub rule_of_reason : List ℕ → List RuleValue → List Span → Reason → Data
rule_of_reason text rules spans (reasons.Allowed n) = rule_object text rules spans n
rule_of_reason text rules spans (reasons.Denied n) = rule_object text rules spans n
rule_of_reason text rules spans reasons.NoRule = null

abbrev pub reason_word : Reason → List ℕ
reason_word (reasons.Allowed n) = codes "allowed"
reason_word (reasons.Denied n) = codes "denied"
reason_word reasons.NoRule = codes "no rule"

-- {"permission":"w","rule":RULE,"verdict":"denied"}
abbrev pub object_of_reason : List ℕ → List RuleValue → List Span → Permission → Reason → Data
object_of_reason text rules spans p why = object
    (member (codes "permission") (string (letter p ∷ []))
    (member (codes "rule") (rule_of_reason text rules spans why)
    (member (codes "verdict") (string (reason_word why)) no_members)))

-- why the rules of the text allow a permission of a name, or not
abbrev pub reason_object : List ℕ → List RuleValue → List Span → List ℕ → Permission → Data
reason_object text rules spans name p = object_of_reason text rules spans p (reason rules name p)

-- the same of each permission that is asked, in the order in which a set is printed
abbrev pub reasons_array : List ℕ → List RuleValue → List Span → List ℕ → Perms → Data
reasons_array text rules spans name ask =
    array (items_of (map (reason_object text rules spans name) (filter (has ask) all_permissions)))

-- ---- verdicts

-- the permissions for which there is no rule, by their letters
abbrev pub missing_letters : Verdict → Data
missing_letters verdicts.Allowed = null
missing_letters (verdicts.Denied n) = null
missing_letters (verdicts.NoRule missing) = string (letters missing)

-- the number of the rule that denies
abbrev pub denying_rule : Verdict → Option ℕ
denying_rule verdicts.Allowed = None
denying_rule (verdicts.Denied n) = Some n
denying_rule (verdicts.NoRule missing) = None

abbrev pub verdict_word : Verdict → List ℕ
verdict_word verdicts.Allowed = codes "allowed"
verdict_word (verdicts.Denied n) = codes "denied"
verdict_word (verdicts.NoRule missing) = codes "no rule"

-- {"missing":null,"rule":3,"verdict":"denied"}
abbrev pub verdict_object : Verdict → Data
verdict_object v = object
    (member (codes "missing") (missing_letters v)
    (member (codes "rule") (number_or_null (denying_rule v))
    (member (codes "verdict") (string (verdict_word v)) no_members)))

-- the verdict of a text's rules, and the reasons for it
abbrev pub explanation_object : List ℕ → List RuleValue → List Span → List ℕ → Perms → Data
explanation_object text rules spans name ask = object
    (member (codes "missing") (missing_letters (verdict rules name ask))
    (member (codes "reasons") (reasons_array text rules spans name ask)
    (member (codes "rule") (number_or_null (denying_rule (verdict rules name ask)))
    (member (codes "verdict") (string (verdict_word (verdict rules name ask))) no_members))))

-- the verdict by an image, the number of steps, and where states may have a depth the number of cells looked up
abbrev pub match_object : Verdict → ℕ → Option ℕ → Data
match_object v steps look_ups = object
    (member (codes "lookups") (number_or_null look_ups)
    (member (codes "missing") (missing_letters v)
    (member (codes "rule") (number_or_null (denying_rule v))
    (member (codes "steps") (number_value steps)
    (member (codes "verdict") (string (verdict_word v)) no_members)))))
