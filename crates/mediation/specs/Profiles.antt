-- What profiles mean to those who publish them.
use Rattle.matcher.specs.declared.profiles.AnyProfile.{AnyProfile}
use Rattle.matcher.specs.declared.profiles.AnyProfile.TheVariants.{Compiled, Loaded}
use Rattle.matcher.specs.Profiles.{rules_of}
use Rattle.mediation.specs.Judge.{Judge, by_rules, by_table}

abbrev pub judge_of : AnyProfile → Judge
judge_of (Compiled p) = by_rules (rules_of p)
judge_of (Loaded p) = by_table p
