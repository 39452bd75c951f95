-- What a rule is to its readers.
pub use Rattle.rule_globs.specs.Rules.{RuleValue, ProfileValue, pattern, holds}
use Rattle.rule_profile.specs.declared.profile.Rule.{Rule}

abbrev pub rule_value : Rule → RuleValue
rule_value rule = record { kind = rule.kind; perms = rule.perms; items = rule.path }
