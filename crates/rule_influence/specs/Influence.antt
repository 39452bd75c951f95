-- What each rule of a list decides.
use Rattle.std.specs.Prelude.{◌≡◌, ◌≢◌, ◌⊎◌, ◌↔◌, ℕ, ◌+◌, true, false, List, length, Some, slice_get}
use Rattle.names.specs.declared.permissions.Permission.{Permission}
use Rattle.names.specs.declared.permissions.Perms.{Perms}
use Rattle.names.specs.declared.kind.RuleKind.{RuleKind}
use Rattle.names.specs.declared.kind.RuleKind.TheVariants.{Allow, Deny}
use Rattle.names.specs.Paths.{IsName}
use Rattle.names.specs.Permissions.{has}
use Rattle.rule_globs.specs.Rules.{RuleValue}
use Rattle.rule_globs.specs.Verdict.{Hits, IsAllowed}

-- a hit of another rule than the one with number k; the rules keep their numbers
abbrev pub HitsWithout : List RuleValue → ℕ → RuleKind → Permission → List ℕ → ℕ → Type 0
HitsWithout rules k kind p name n = Hits rules kind p name n × (n ≢ k)

-- p is allowed to the name without rule k: no other rule denies it, and another one allows it
abbrev pub IsAllowedWithout : List RuleValue → ℕ → List ℕ → Permission → Type 0
IsAllowedWithout rules k name p =
    ((n : ℕ) → ¬ (HitsWithout rules k Deny p name n)) × ((n : ℕ) × HitsWithout rules k Allow p name n)

-- rule k decides whether p is allowed to the name: it is with all rules and isn't without rule k, or the other way round
abbrev pub DecidesFor : List RuleValue → ℕ → Permission → List ℕ → Type 0
DecidesFor rules k p name =
    (IsAllowed rules name p × ¬ (IsAllowedWithout rules k name p)) ⊎ (IsAllowedWithout rules k name p × ¬ (IsAllowed rules name p))

-- rule k decides p: it does for some name
abbrev pub Decides : List RuleValue → ℕ → Permission → Type 0
Decides rules k p = (name : List ℕ) × IsName name × DecidesFor rules k p name

-- rule k is idle for p: with and without it, p is allowed to the same names
abbrev pub IsIdle : List RuleValue → ℕ → Permission → Type 0
IsIdle rules k p = (name : List ℕ) → IsName name → IsAllowed rules name p ↔ IsAllowedWithout rules k name p

-- the rule with number k hits, and no other of its kind does
abbrev pub IsLoneHit : List RuleValue → RuleKind → Permission → List ℕ → ℕ → Type 0
IsLoneHit rules kind p name k = Hits rules kind p name k × ((n : ℕ) → Hits rules kind p name n → n ≡ k)

-- for each rule, in their order, the permissions that it decides; for all others it is idle
pub record AreDecided (rules : List RuleValue) (decided : List Perms) : Type 0 where
  pub each : length decided ≡ length rules
  pub decides : (i : ℕ) (perms : Perms) (p : Permission) → slice_get decided i ≡ Some perms → has perms p ≡ true → Decides rules (i + 1) p
  pub idle : (i : ℕ) (perms : Perms) (p : Permission) → slice_get decided i ≡ Some perms → has perms p ≡ false → IsIdle rules (i + 1) p
