-- The verdict, by the reasons of the permissions that are asked.
use Rattle.std.specs.Prelude.{◌≡◌, ◌↔◌, ℕ, List, IsTrue}
use Rattle.names.specs.declared.permissions.Permission.{Permission}
use Rattle.names.specs.declared.permissions.Perms.{Perms}
use Rattle.names.specs.Permissions.{has}
use Rattle.rule_globs.specs.Rules.{RuleValue}
use Rattle.rule_globs.specs.Verdict.{IsLeast}
use Rattle.names.specs.declared.verdict.Verdict.{Verdict}
use Rattle.names.specs.declared.verdict.Verdict.TheVariants as verdicts
use Rattle.rule_explain.specs.declared.reason.Reason.{Reason}
use Rattle.rule_explain.specs.declared.reason.Reason.TheVariants.{Allowed, Denied, NoRule}
use Rattle.rule_explain.specs.Reasons.{reason}

-- some permission that is asked is denied by the rule with this number
abbrev pub IsDeniedBy : List RuleValue → List ℕ → Perms → ℕ → Type 0
IsDeniedBy rules name ask n = (p : Permission) × IsTrue (has ask p) × (reason rules name p ≡ Denied n)

-- some rule allows it
abbrev pub IsAllowed : Reason → Type 0
IsAllowed (Allowed n) = Unit {0}
IsAllowed (Denied n) = ⊥
IsAllowed NoRule = ⊥

-- The least rule by which something that is asked is denied; otherwise exactly the permissions about which no rule says anything;
-- otherwise each is allowed.
abbrev pub AgreesWithReasons : List RuleValue → List ℕ → Perms → Verdict → Type 0
AgreesWithReasons rules name ask (verdicts.Denied n) = IsLeast (IsDeniedBy rules name ask) n
AgreesWithReasons rules name ask (verdicts.NoRule missing) =
    (p : Permission) → IsTrue (has missing p) ↔ (IsTrue (has ask p) × (reason rules name p ≡ NoRule))
AgreesWithReasons rules name ask verdicts.Allowed = (p : Permission) → IsTrue (has ask p) → IsAllowed (reason rules name p)
