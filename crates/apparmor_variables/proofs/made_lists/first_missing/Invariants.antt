-- The names before the place have lists.
use Rattle.std.proofs.Common.{◌-◌, map, take, length}
use Rattle.apparmor_variables.specs.inner.Known.{known_in}
use Rattle.apparmor_variables.specs.inner.Way.{AreKnown}
use Rattle.apparmor_variables.proofs.made_lists.first_missing.Given as goal

abbrev pub invariant-loop-place : goal.invariant-loop-place
invariant-loop-place l = AreKnown (known_in l.declared l.lists) (take l.place (map (λ name. name.now) l.names))

abbrev pub decreases-loop-place : goal.decreases-loop-place
decreases-loop-place l = length l.names - l.place
