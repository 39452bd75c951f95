-- What `judge` and `explain` answer: the verdict of the rules that are published under a profile's name, and why.
use Rattle.names.specs.Ascii as ascii
use Rattle.names.specs.declared.permissions.Permission.{Permission}
use Rattle.names.specs.declared.permissions.Perms.{Perms}
use Rattle.names.specs.Permissions.{all_permissions, has, letter}
use Rattle.names.specs.VerdictText.{verdict_text}
use Rattle.std.specs.Prelude.{ℕ, ◌==◌, Bool, List, ◌∷◌, ◌++◌, filter, slice_index, codes, decimal, Option, Some, None, if◌then◌else◌}
use Rattle.std.specs.List.{flat_map}
use Rattle.mediation.specs.Deeds.{Deed, policy_after}
use Rattle.mediation.specs.Judge.{Judge, by_rules, by_table}
use Rattle.rule_explain.specs.declared.reason.Reason.{Reason}
use Rattle.rule_explain.specs.declared.reason.Reason.TheVariants.{Allowed, Denied, NoRule}
use Rattle.rule_explain.specs.Explanations.{text_of_rule}
use Rattle.rule_explain.specs.Reasons.{reason}
use Rattle.rule_globs.specs.PlainVerdict.{verdict}
use Rattle.rule_profile.specs.Profile.{RuleValue}
use Rattle.test_script.specs.TestScript.{Question}

-- the rules of a published profile; one that was loaded as a table has none, but a script publishes no such
abbrev pub rules_of : Option Judge → Option (List RuleValue)
rules_of None = None
rules_of (Some (by_rules rules)) = Some rules
rules_of (Some (by_table table)) = None

-- the rules that are published under each name after these changes of the policy
abbrev pub RulesByName : Type 0
RulesByName = List ℕ → Option (List RuleValue)

abbrev pub rules_after : List Deed → RulesByName
rules_after deeds name = rules_of (policy_after deeds name)

-- a name that rules speak of begins with a slash
abbrev pub is_name : List ℕ → Bool
is_name name = slice_index name 0 == ascii.slash

-- `no profile`, `bad name`, or what the rules say
abbrev pub answer_by : (List RuleValue → List ℕ) → List ℕ → Option (List RuleValue) → List ℕ
answer_by says name None = codes "no profile"
answer_by says name (Some rules) = if is_name name then says rules else codes "bad name"

-- `allowed`, `denied by rule K`, or `no rule for LETTERS`
abbrev pub judge_text : RulesByName → Question → List ℕ
judge_text published q = answer_by (λ rules. verdict_text (verdict rules q.name q.ask)) q.name (published q.profile)

-- `rule 3: deny "/x" r,`
abbrev pub rule_told : List RuleValue → ℕ → List ℕ
rule_told rules n = codes "rule " ++ (decimal n ++ (codes ": " ++ text_of_rule rules n))

-- `allowed by rule 1: "/y" rw,`, `denied by rule 3: deny "/x" r,`, or `no rule`
abbrev pub reason_told : List RuleValue → Reason → List ℕ
reason_told rules (Allowed n) = codes "allowed by " ++ rule_told rules n
reason_told rules (Denied n) = codes "denied by " ++ rule_told rules n
reason_told rules NoRule = codes "no rule"

-- `; r: `, and the reason
abbrev pub reason_part : List RuleValue → List ℕ → Permission → List ℕ
reason_part rules name p = codes "; " ++ (letter p ∷ (codes ": " ++ reason_told rules (reason rules name p)))

-- the verdict, and the reason for each permission that is asked, in the order in which a set is printed
abbrev pub explanation : List RuleValue → List ℕ → Perms → List ℕ
explanation rules name ask = verdict_text (verdict rules name ask)
    ++ flat_map (reason_part rules name) (filter (has ask) all_permissions)

abbrev pub explain_text : RulesByName → Question → List ℕ
explain_text published q = answer_by (λ rules. explanation rules q.name q.ask) q.name (published q.profile)
