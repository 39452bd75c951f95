-- Which rules do the work of idle ones.
use Rattle.std.specs.Prelude.{◌≡◌, ◌≢◌, ◌⊎◌, ◌↔◌, ℕ, ◌<◌, ◌≤◌, true, List, length, Some, slice_get, slice_index_or, Contains}
use Rattle.names.specs.declared.permissions.Permission.{Permission}
use Rattle.names.specs.declared.kind.RuleKind.{RuleKind}
use Rattle.names.specs.declared.kind.RuleKind.TheVariants.{Allow, Deny}
use Rattle.names.specs.Paths.{IsName}
use Rattle.names.specs.Permissions.{has}
use Rattle.rule_globs.specs.Rules.{RuleValue}
use Rattle.rule_globs.specs.Verdict.{Hits, IsLeast}
use Rattle.rule_influence.specs.declared.substitutes.IdleCase.{IdleCase}

-- whether p is allowed to the name is up to rules of this kind: to allow rules where no deny rule hits, and to deny rules where some
-- allow rule hits
abbrev pub IsUpTo : List RuleValue → RuleKind → Permission → List ℕ → Type 0
IsUpTo rules Allow p name = (n : ℕ) → ¬ (Hits rules Deny p name n)
IsUpTo rules Deny p name = (n : ℕ) × Hits rules Allow p name n

-- the name matters for rule k, which is of this kind, and p: the rule hits it, and p is up to its kind
abbrev pub Matters : List RuleValue → RuleKind → ℕ → Permission → List ℕ → Type 0
Matters rules kind k p name = Hits rules kind p name k × IsUpTo rules kind p name

-- n is the greatest member of a set
abbrev pub IsGreatest : (ℕ → Type 0) → ℕ → Type 0
IsGreatest S n = S n × ((m : ℕ) → S m → m ≤ n)

-- the first rule of the kind that hits the name or, where that is rule k, the last one; another rule than k
abbrev pub IsStandInAt : List RuleValue → RuleKind → ℕ → Permission → List ℕ → ℕ → Type 0
IsStandInAt rules kind k p name n = (n ≢ k)
    × (IsLeast (Hits rules kind p name) n ⊎ (IsLeast (Hits rules kind p name) k × IsGreatest (Hits rules kind p name) n))

-- rule n stands in for rule k for p at some name that matters
abbrev pub StandsInFor : List RuleValue → ℕ → Permission → ℕ → Type 0
StandsInFor rules k p n = (kind : RuleKind) × (name : List ℕ) × IsName name × Matters rules kind k p name
    × IsStandInAt rules kind k p name n

-- it does for one of the permissions of a case
abbrev pub IsStandIn : List RuleValue → IdleCase → ℕ → Type 0
IsStandIn rules idle n = (p : Permission) × (has idle.perms p ≡ true) × StandsInFor rules idle.rule p n

-- the numbers grow from each to the next
abbrev pub IsAscending : List ℕ → Type 0
IsAscending list = (i j : ℕ) → i < j → j < length list → slice_index_or list i 0 < slice_index_or list j 0

-- exactly these rules, in ascending order
pub record AreTheStandIns (rules : List RuleValue) (idle : IdleCase) (list : List ℕ) : Type 0 where
  pub ascending : IsAscending list
  pub members : (n : ℕ) → Contains list n ↔ IsStandIn rules idle n

-- the stand-ins of each of some cases, in their order
pub record AreStandIns (rules : List RuleValue) (cases : List IdleCase) (lists : List (List ℕ)) : Type 0 where
  pub each : length lists ≡ length cases
  pub stand_in : (i : ℕ) (idle : IdleCase) (list : List ℕ) → slice_get cases i ≡ Some idle → slice_get lists i ≡ Some list →
      AreTheStandIns rules idle list
