-- Requested changes of what is published.
use Rattle.std.specs.Arc.{arc_value}
use Rattle.std.specs.declared.alloc.Global.{Global}
use Rattle.std.specs.declared.sync.Arc.{Arc}
use Rattle.matcher.specs.declared.profiles.AnyProfile.{AnyProfile}
use Rattle.matcher.specs.declared.profiles.PolicyChange.{PolicyChange}
use Rattle.matcher.specs.declared.profiles.PolicyChange.TheVariants.{Replace, Remove}
use Rattle.mediation.specs.Deeds.{Deed, published, removed}
use Rattle.mediation.specs.Judge.{Judge}
use Rattle.mediation.specs.Profiles.{judge_of}

-- what a shared profile says
abbrev pub judge_shared : Arc AnyProfile Global → Judge
judge_shared profile = judge_of (arc_value profile)

abbrev pub deed_of : PolicyChange → Deed
deed_of (Replace name profile) = published name.items (judge_shared profile)
deed_of (Remove name) = removed name.items
