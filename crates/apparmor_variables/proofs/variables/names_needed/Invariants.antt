-- The first values were looked at.
use Rattle.std.proofs.Common.{◌≡◌, map, take}
use Rattle.apparmor_variables.specs.Variables.{names_needed}
use Rattle.apparmor_variables.proofs.variables.names_needed.Given as goal

abbrev pub invariant-loop-value : goal.invariant-loop-value
invariant-loop-value l = map (λ name. name.now) l.names.items ≡ names_needed (map (λ value. value.now) (take l.value-index l.values))
