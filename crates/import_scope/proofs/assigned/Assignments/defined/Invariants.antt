-- The defines that are left make of those so far what all make of none.
use Rattle.std.proofs.Common.{◌≡◌, [], drop}
use Rattle.import_scope.specs.Scopes.{with_defines}
use Rattle.import_scope.proofs.assigned.Assignments.defined.Given as goal

abbrev pub invariant-loop-define : goal.invariant-loop-define
invariant-loop-define l = with_defines l.assignments (drop l.define-index l.defines) ≡ with_defines [] l.defines
