-- What a profile is to its readers: its name, and its rules in order.
pub use Rattle.rule_profile.specs.Rules.{RuleValue, ProfileValue, pattern, holds, rule_value}
use Rattle.std.specs.Prelude.{map}
use Rattle.rule_profile.specs.declared.profile.Profile.{Profile}

abbrev pub profile_value : Profile → ProfileValue
profile_value profile = record { name = profile.name.items; rules = map rule_value profile.rules.items }
