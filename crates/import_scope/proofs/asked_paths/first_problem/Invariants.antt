-- The lists are those of their profile, and the first fault of what is left to be asked is that of all.
use Rattle.std.proofs.Common.{◌≡◌, ◌≤◌, Option, map, drop}
use Rattle.std.specs.Prelude.{unwrap_or}
use Rattle.import_scope.specs.FirstFaults.{most_together, nothing_counted, variables_within}
use Rattle.import_scope.specs.Scopes.{Fault}
use Rattle.import_scope.specs.inner.Outlines.{asked_value}
use Rattle.import_scope.specs.inner.Problems.{name_at, counted_of, FirstProblem}
use Rattle.import_scope.proofs.asked_paths.first_problem.Given as goal

abbrev pub invariant-loop-question : goal.invariant-loop-question
invariant-loop-question l = record {
  seen : l.seen.lists ≡ variables_within l.variables (name_at l.profiles (unwrap_or l.seen.profile 0));
  most : l.seen.bytes ≤ most_together;
  so_far : (end : Option Fault) →
      FirstProblem l.variables l.profiles (counted_of l.seen) (map asked_value (drop l.question-index l.asked)) end →
      FirstProblem l.variables l.profiles nothing_counted (map asked_value l.asked) end;
}
