-- The same explanations as JSON values. The members of an object are in the order of their keys.
use Rattle.std.specs.Prelude.{ℕ, List, [], ◌∷◌, Option, Some, None, codes, flat_map, if◌then◌else◌}
use Rattle.answer_json.specs.Lines.{json_line}
use Rattle.answer_json.specs.Values.{denying_rule, missing_letters, name_value, number_or_null, number_value, reason_word, verdict_word}
use Rattle.names.specs.declared.permissions.Permission.{Permission}
use Rattle.names.specs.declared.permissions.Perms.{Perms}
use Rattle.names.specs.Permissions.{all_permissions, has, letter}
use Rattle.rule_globs.specs.PlainVerdict.{verdict}
use Rattle.rule_profile.specs.declared.profile.Span.{Span}
use Rattle.rule_profile.specs.Profile.{RuleValue}
use Rattle.rule_explain.specs.declared.reason.Reason.{Reason}
use Rattle.rule_explain.specs.declared.reason.Reason.TheVariants as reasons
use Rattle.rule_explain.specs.Explanations.{line_of_rule, text_of_rule}
use Rattle.rule_explain.specs.Reasons.{reason}
use Rattle.serde_json.specs.Data.{Data, null, string, array, object, member, no_members}
use Rattle.serde_json.specs.View.{items_of}
use Rattle.trace_report.specs.declared.format.Format.{Format}
use Rattle.trace_report.specs.declared.format.Format.TheVariants.{Text, Json}
use Rattle.import_origins.specs.Origins.{explained, file_of_rule}

abbrev pub file_value : Option (List ℕ) → Data
file_value None = null
file_value (Some file) = name_value file

-- {"file":"<abstractions/nameservice>","line":612,"number":177,"text":"\"/etc/passwd\" r,"}
abbrev pub origin_rule_object : List ℕ → List RuleValue → List Span → ℕ → Data
origin_rule_object text rules spans n = object
    (member (codes "file") (file_value (file_of_rule text spans n))
    (member (codes "line") (number_value (line_of_rule text spans n))
    (member (codes "number") (number_value n)
    (member (codes "text") (name_value (text_of_rule rules n)) no_members))))

-- the rule that a reason names
abbrev pub rule_of_reason : List ℕ → List RuleValue → List Span → Reason → Data
rule_of_reason text rules spans (reasons.Allowed n) = origin_rule_object text rules spans n
rule_of_reason text rules spans (reasons.Denied n) = origin_rule_object text rules spans n
rule_of_reason text rules spans reasons.NoRule = null

-- {"permission":"w","rule":RULE,"verdict":"denied"}
abbrev pub object_of_reason : List ℕ → List RuleValue → List Span → Permission → Reason → Data
object_of_reason text rules spans p why = object
    (member (codes "permission") (string (letter p ∷ []))
    (member (codes "rule") (rule_of_reason text rules spans why)
    (member (codes "verdict") (string (reason_word why)) no_members)))

-- that of a permission, if it is asked
abbrev pub reason_objects : List ℕ → List RuleValue → List Span → List ℕ → Perms → Permission → List Data
reason_objects text rules spans name ask p =
    if has ask p then object_of_reason text rules spans p (reason rules name p) ∷ [] else []

-- those of each permission that is asked, in the order in which a set is printed
abbrev pub reasons_array : List ℕ → List RuleValue → List Span → List ℕ → Perms → Data
reasons_array text rules spans name ask = array (items_of (flat_map (reason_objects text rules spans name ask) all_permissions))

-- the verdict of the rules, and the reasons for it
abbrev pub origin_object : List ℕ → List RuleValue → List Span → List ℕ → Perms → Data
origin_object text rules spans name ask = object
    (member (codes "missing") (missing_letters (verdict rules name ask))
    (member (codes "reasons") (reasons_array text rules spans name ask)
    (member (codes "rule") (number_or_null (denying_rule (verdict rules name ask)))
    (member (codes "verdict") (string (verdict_word (verdict rules name ask))) no_members))))

-- the explanation: lines, or one line
abbrev pub origin_explanation : Format → List ℕ → List RuleValue → List Span → List ℕ → Perms → List ℕ
origin_explanation Text text rules spans name ask = explained text rules spans name ask
origin_explanation Json text rules spans name ask = json_line (origin_object text rules spans name ask)
