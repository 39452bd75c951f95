-- The candidates of the permissions before the index are added, if the list ascends.
use Rattle.rule_influence.specs.StandIns.{IsAscending}
use Rattle.rule_influence.specs.inner.Lists.{AreAdded}
use Rattle.rule_influence.proofs.CandidateLists.{IsAtBefore}
use Rattle.rule_influence.proofs.substitutes.note_case.Given as goal

abbrev pub invariant-loop-permission : goal.invariant-loop-permission
invariant-loop-permission l = record {
  added : IsAscending l.initial.list.items → AreAdded (IsAtBefore l.case l.records l.name l.permission-index)
      l.initial.list.items l.list.items;
}
