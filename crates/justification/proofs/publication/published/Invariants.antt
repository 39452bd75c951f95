use Rattle.std.proofs.Common.{◌≡◌, map, length}
use Rattle.mediation.specs.Deeds.{policy_after}
use Rattle.mediation.specs.PolicyChanges.{deed_of}
use Rattle.justification.proofs.publication.published.Given as goal

-- the changes after the rest aren't about the name
abbrev pub invariant-loop-change : goal.invariant-loop-change
invariant-loop-change l = policy_after (map deed_of l.rest) l.name ≡ policy_after (map deed_of l.changes) l.name

abbrev pub decreases-loop-change : goal.decreases-loop-change
decreases-loop-change l = length l.rest
