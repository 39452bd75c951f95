-- The rule that a reason names is one of `count` rules.
use Rattle.std.specs.Prelude.{ℕ, ◌≤◌}
use Rattle.rule_explain.specs.declared.reason.Reason.{Reason}
use Rattle.rule_explain.specs.declared.reason.Reason.TheVariants.{Allowed, Denied, NoRule}

abbrev pub TellsRuleOf : Reason → ℕ → Type 0
TellsRuleOf (Allowed n) count = (1 ≤ n) × (n ≤ count)
TellsRuleOf (Denied n) count = (1 ≤ n) × (n ≤ count)
TellsRuleOf NoRule count = Unit {0}
