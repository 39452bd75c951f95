-- The candidates of the permissions before the index are in the list, if it ascends.
use Rattle.rule_influence.specs.StandIns.{IsAscending}
use Rattle.rule_influence.proofs.CandidateLists.{AreThereBefore}
use Rattle.rule_influence.proofs.substitutes.is_missing.Given as goal

abbrev pub invariant-loop-permission : goal.invariant-loop-permission
invariant-loop-permission l = record { there : IsAscending l.list → AreThereBefore l.case l.records l.permission-index l.list }
