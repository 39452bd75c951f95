-- The first values were taken.
use Rattle.std.proofs.Common.{◌≡◌, map, drop}
use Rattle.apparmor_variables.specs.Variables.{list_from, list_of_values}
use Rattle.apparmor_variables.specs.inner.Known.{known_in}
use Rattle.apparmor_variables.proofs.one_list.list_of.Given as goal

abbrev pub invariant-loop-value : goal.invariant-loop-value
invariant-loop-value l =
    list_from (known_in l.declared l.made) l.texts (map (λ value. value.now) (drop l.value-index l.values))
    ≡ list_of_values (known_in l.declared l.made) (map (λ value. value.now) l.values)
