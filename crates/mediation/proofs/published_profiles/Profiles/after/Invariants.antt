use Rattle.std.proofs.Common.{◌≡◌, map, take}
use Rattle.mediation.specs.Deeds.{after_deeds}
use Rattle.mediation.specs.PolicyChanges.{deed_of}
use Rattle.mediation.specs.inner.Profiles.{policy_in}
use Rattle.mediation.proofs.published_profiles.Profiles.after.Given as goal

-- what the changes so far made
abbrev pub invariant-loop-change : goal.invariant-loop-change
invariant-loop-change l = policy_in l.after ≡ after_deeds (policy_in l.self) (map deed_of (take l.change-index l.changes))
