-- `profile_name` is first, and the first variables are copied.
use Rattle.std.proofs.Common.{◌≡◌, take}
use Rattle.import_scope.specs.FirstFaults.{variables_within}
use Rattle.import_scope.proofs.seen.variables_within.Given as goal

abbrev pub invariant-loop-variable : goal.invariant-loop-variable
invariant-loop-variable l = l.seen.items ≡ variables_within (take l.variable-index l.variables) l.full_name
