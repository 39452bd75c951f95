-- The share of a profile that a session keeps, and up to where it is in step with its publisher.
use Rattle.std.specs.Prelude.{◌≡◌, ◌≤◌, ℕ, List, length, take, Option, Some, None}
use Rattle.std.specs.Option.{option_map}
use Rattle.std.specs.declared.alloc.Global.{Global}
use Rattle.std.specs.declared.sync.Arc.{Arc}
use Rattle.matcher.specs.declared.profiles.AnyProfile.{AnyProfile}
use Rattle.mediation.specs.Deeds.{Deed, policy_after}
use Rattle.mediation.specs.PolicyChanges.{judge_shared}
use Rattle.profile_registry.specs.Views.{Reading}

-- at that version of the policy, which was seen, it is what was published under the name; without a version it may be anything
abbrev pub IsShareOf : List Deed → List ℕ → Option ℕ → Option (Arc AnyProfile Global) → Type 0
IsShareOf seen name None profile = Unit {0}
IsShareOf seen name (Some version) profile =
    (version ≤ length seen) × (option_map judge_shared profile ≡ policy_after (take version seen) name)

-- it has seen what it learned, up to this version, and no more; without a version it may have seen more
abbrev pub IsInStep : Reading → Option ℕ → Type 0
IsInStep reading None = Unit {0}
IsInStep reading (Some version) = (reading.seen ≡ reading.learned) × (version ≡ length reading.seen)
