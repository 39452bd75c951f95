-- What the map of shares says.
use Rattle.std.specs.Ordering.{nat_cmp}
use Rattle.std.specs.Cmp.Lexicographic.{slice_cmp}
use Rattle.std.specs.BTreeMap.{get_by}
use Rattle.std.specs.Option.{option_map}
use Rattle.mediation.specs.Deeds.{Policy}
use Rattle.mediation.specs.PolicyChanges.{judge_shared}
use Rattle.mediation.specs.declared.published_profiles.Profiles.{Profiles}

-- what the profile under each name says
abbrev pub policy_in : Profiles → Policy
policy_in profiles name = option_map judge_shared (get_by (λ key. slice_cmp nat_cmp name key.items) profiles.by_name)
