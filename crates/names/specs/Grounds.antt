-- The verdict on the grounds of a record (apparmor.d(5), "Rule Qualifiers"): a denial takes precedence over what is missing.
use Rattle.std.specs.Prelude.{◌≡◌, ◌≢◌, false}
use Rattle.names.specs.declared.permissions.Permission.{Permission}
use Rattle.names.specs.declared.permissions.Perms.{Perms}
use Rattle.names.specs.Permissions.{has}
use Rattle.names.specs.declared.judgment.Grounds.{Grounds}
use Rattle.names.specs.declared.verdict.Verdict.{Verdict}
use Rattle.names.specs.declared.verdict.Verdict.TheVariants.{Denied, NoRule, Allowed}

-- the set has no permission
abbrev pub HasNone : Perms → Type 0
HasNone s = (p : Permission) → has s p ≡ false

abbrev pub IsVerdictOn : Grounds → Verdict → Type 0
IsVerdictOn g (Denied rule) = (g.rule ≢ 0) × (rule ≡ g.rule)
IsVerdictOn g (NoRule missing) = (g.rule ≡ 0) × (¬ (HasNone g.missing)) × (missing ≡ g.missing)
IsVerdictOn g Allowed = (g.rule ≡ 0) × HasNone g.missing
