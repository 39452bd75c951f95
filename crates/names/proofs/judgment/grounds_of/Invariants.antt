-- The least deny number of what is asked and precedes the index, and what of it has no allow number.
use Rattle.std.proofs.Common.{◌&&◌, ◌==◌}
use Rattle.names.specs.Permissions.{has}
use Rattle.names.proofs.PermsTests.{IsPassedBefore}
use Rattle.names.specs.Least.{IsLeastOrNone, hits_of}
use Rattle.names.proofs.LeastSteps.{DeniedBefore}
use Rattle.names.proofs.judgment.grounds_of.Given as goal

abbrev pub invariant-loop-permission : goal.invariant-loop-permission
invariant-loop-permission l = record {
  least : IsLeastOrNone (DeniedBefore l.«record» l.ask l.permission-index) l.rule;
  passed : IsPassedBefore (λ p. has l.ask p && ((hits_of l.«record» p).allow == 0)) l.permission-index l.missing;
}
