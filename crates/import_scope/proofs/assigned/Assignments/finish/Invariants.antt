-- Those that were yielded are finished.
use Rattle.std.proofs.Common.{◌≡◌}
use Rattle.import_scope.proofs.assigned.Assignments.finish.Given as goal

abbrev pub invariant-loop-assigned : goal.invariant-loop-assigned
invariant-loop-assigned l = l.finished.items ≡ l.yielded
