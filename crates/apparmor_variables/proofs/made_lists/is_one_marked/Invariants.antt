-- None of the names before is marked.
use Rattle.std.proofs.Common.{◌≡◌, false, map, take}
use Rattle.std.specs.List.{list_any}
use Rattle.apparmor_variables.specs.inner.Known.{is_named_marked}
use Rattle.apparmor_variables.proofs.made_lists.is_one_marked.Given as goal

abbrev pub invariant-loop-name : goal.invariant-loop-name
invariant-loop-name l = list_any (is_named_marked l.declared l.marks) (map (λ name. name.now) (take l.name-index l.names)) ≡ false
