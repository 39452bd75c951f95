-- The rule that a reason names is one of `count` rules.
use Rattle.std.specs.Prelude.{ℕ, ◌≤◌}
use Rattle.rule_explain.specs.declared.reason.Reason.{Reason}
use Rattle.rule_explain.specs.declared.reason.Reason.TheVariants.{Allowed, Denied, NoRule}

abbrev pub NamesRuleOf : Reason → ℕ → Type 0
NamesRuleOf (Allowed n) count = (1 ≤ n) × (n ≤ count)
NamesRuleOf (Denied n) count = (1 ≤ n) × (n ≤ count)
NamesRuleOf NoRule count = Unit {0}
