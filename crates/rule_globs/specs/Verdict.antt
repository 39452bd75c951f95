-- Hits and the verdict, by sets of rules' numbers. Deny rules go before allow rules, whatever their order
-- (apparmor.d(5), "Rule Qualifiers", and "Format": the order of rules does not matter).
use Rattle.std.specs.Prelude.{◌≡◌, ℕ, ◌-◌, ◌≤◌, ◌↔◌, List, IsTrue, length, slice_index_or}
use Rattle.names.specs.declared.permissions.Permission.{Permission}
use Rattle.names.specs.declared.permissions.Perms.{Perms}
use Rattle.names.specs.Permissions.{has, only}
use Rattle.rule_globs.specs.Glob.{Takes}
use Rattle.rule_globs.specs.Rules.{RuleValue, pattern, holds}
use Rattle.names.specs.declared.kind.RuleKind.{RuleKind}
use Rattle.names.specs.declared.kind.RuleKind.TheVariants.{Allow, Deny}
use Rattle.names.specs.declared.verdict.Verdict.{Verdict}
use Rattle.names.specs.declared.verdict.Verdict.TheVariants.{Denied, NoRule, Allowed}

-- The rule with this number, from 1 on (our choice). The rule itself stands for what is past the list, where no rule is.
abbrev pub IsRuleAt : List RuleValue → ℕ → RuleValue → Type 0
IsRuleAt rules n rule = (1 ≤ n) × (n ≤ length rules) × (rule ≡ slice_index_or rules (n - 1) rule)

-- n is in the set of hits: the rule with the number n is of this kind, holds p and matches the name
abbrev pub Hits : List RuleValue → RuleKind → Permission → List ℕ → ℕ → Type 0
Hits rules kind p name n = (rule : RuleValue) × IsRuleAt rules n rule × (rule.kind ≡ kind)
    × IsTrue (holds rule p) × Takes (pattern rule) name

-- n is in the union of the deny hits over what is asked
abbrev pub Denies : List RuleValue → List ℕ → Perms → ℕ → Type 0
Denies rules name ask n = (p : Permission) × IsTrue (has ask p) × Hits rules Deny p name n

-- n is the least member of a set
abbrev pub IsLeast : (ℕ → Type 0) → ℕ → Type 0
IsLeast S n = S n × ((m : ℕ) → S m → n ≤ m)

-- p is asked, and has no allow hit
abbrev pub IsMissing : List RuleValue → List ℕ → Perms → Permission → Type 0
IsMissing rules name ask p = IsTrue (has ask p) × ((n : ℕ) → Hits rules Allow p name n → ⊥)

-- nothing that is asked has a deny hit
abbrev pub NothingDenied : List RuleValue → List ℕ → Perms → Type 0
NothingDenied rules name ask = (n : ℕ) → Denies rules name ask n → ⊥

-- What the rules say of the name and of what is asked: the least deny hit, if there is one; else what is missing, if
-- anything is; else it is allowed.
abbrev pub IsVerdict : List RuleValue → List ℕ → Perms → Verdict → Type 0
IsVerdict rules name ask (Denied n) = IsLeast (Denies rules name ask) n
IsVerdict rules name ask (NoRule missing) =
    NothingDenied rules name ask
    × ((p : Permission) × IsTrue (has missing p))
    × ((p : Permission) → IsTrue (has missing p) ↔ IsMissing rules name ask p)
IsVerdict rules name ask Allowed = NothingDenied rules name ask × ((p : Permission) → IsMissing rules name ask p → ⊥)

-- p is an allowed permission: asked by itself, it is allowed
abbrev pub IsAllowed : List RuleValue → List ℕ → Permission → Type 0
IsAllowed rules name p = IsVerdict rules name (only p) Allowed
