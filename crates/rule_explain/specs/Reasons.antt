-- Why a permission is allowed to a name, or not: the least deny rule that holds it and matches the name, if there is one; otherwise
-- the least allow rule that does (apparmor.d(5), "Rule Qualifiers").
use Rattle.std.specs.Prelude.{ℕ, ◌+◌, Bool, true, false, ◌&&◌, List, Option, Some, None, option_map, position}
use Rattle.names.specs.declared.permissions.Permission.{Permission}
use Rattle.rule_globs.specs.PlainVerdict.{takes}
use Rattle.rule_globs.specs.Rules.{RuleValue, pattern, holds}
use Rattle.rule_globs.specs.Verdict.{Hits, IsLeast}
use Rattle.names.specs.declared.kind.RuleKind.{RuleKind}
use Rattle.names.specs.declared.kind.RuleKind.TheVariants.{Allow, Deny}
use Rattle.rule_explain.specs.declared.reason.Reason.{Reason}
use Rattle.rule_explain.specs.declared.reason.Reason.TheVariants.{Allowed, Denied, NoRule}

-- no rule of this kind holds p and matches the name
abbrev pub NoHit : List RuleValue → RuleKind → Permission → List ℕ → Type 0
NoHit rules kind p name = (n : ℕ) → ¬ (Hits rules kind p name n)

-- the reason, by sets of hits and least members
abbrev pub IsReason : List RuleValue → List ℕ → Permission → Reason → Type 0
IsReason rules name p (Denied n) = IsLeast (Hits rules Deny p name) n
IsReason rules name p (Allowed n) = NoHit rules Deny p name × IsLeast (Hits rules Allow p name) n
IsReason rules name p NoRule = NoHit rules Deny p name × NoHit rules Allow p name

-- ---- the same, computed in the plainest way

abbrev pub is_kind : RuleKind → RuleKind → Bool
is_kind Allow Allow = true
is_kind Deny Deny = true
is_kind Allow Deny = false
is_kind Deny Allow = false

-- the rule is of this kind, holds p and matches the name
abbrev pub hits : RuleKind → Permission → List ℕ → RuleValue → Bool
hits kind p name rule = is_kind rule.kind kind && holds rule p && takes (pattern rule) name

-- the number of the first rule that does, counted from 1
abbrev pub first_hit : RuleKind → Permission → List ℕ → List RuleValue → Option ℕ
first_hit kind p name rules = option_map (λ before. before + 1) (position (hits kind p name) rules)

-- by the first deny rule and the first allow rule
abbrev pub reason_by : Option ℕ → Option ℕ → Reason
reason_by (Some n) allow = Denied n
reason_by None (Some n) = Allowed n
reason_by None None = NoRule

unfoldable pub reason : List RuleValue → List ℕ → Permission → Reason
reason rules name p = reason_by (first_hit Deny p name rules) (first_hit Allow p name rules)
