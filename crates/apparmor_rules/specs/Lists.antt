-- What restated rules say, and lists of rules of which some are left out.
use Rattle.std.specs.Prelude.{◌≡◌, ℕ, List, Contains}
use Rattle.names.specs.declared.permissions.Permission.{Permission}
use Rattle.rule_globs.specs.Rules.{RuleValue}
use Rattle.rule_globs.specs.Verdict.{Hits}
use Rattle.names.specs.declared.kind.RuleKind.{RuleKind}

-- some rule of this kind holds p and matches the name
abbrev pub IsHit : List RuleValue → RuleKind → Permission → List ℕ → Type 0
IsHit rules kind p name = (n : ℕ) × Hits rules kind p name n

-- The second list has no rules but those of the first, and of these all that aren't of the kind.
pub record LeavesOut (kind : RuleKind) (rules left : List RuleValue) : Type 0 where
  pub no_others : (rule : RuleValue) → Contains left rule → Contains rules rule
  pub all_others : (rule : RuleValue) → Contains rules rule → ¬ (rule.kind ≡ kind) → Contains left rule
