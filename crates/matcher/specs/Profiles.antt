-- The rules that a profile was compiled from, and the tables that profiles are judged by.
use Rattle.std.specs.Prelude.{List}
use Rattle.matcher.specs.declared.compiled.CompiledProfile.{CompiledProfile}
use Rattle.matcher.specs.declared.profiles.AnyProfile.{AnyProfile}
use Rattle.matcher.specs.declared.profiles.AnyProfile.TheVariants.{Compiled, Loaded}
use Rattle.rule_profile.specs.Profile.{RuleValue, profile_value}
use Rattle.tables.specs.Tables.{Table}

abbrev pub rules_of : CompiledProfile → List RuleValue
rules_of p = (profile_value p.profile).rules

abbrev pub any_table : AnyProfile → Table
any_table (Compiled p) = p.table
any_table (Loaded p) = p
