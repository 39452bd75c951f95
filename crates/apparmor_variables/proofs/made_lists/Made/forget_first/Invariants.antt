-- What is made is as right as it was.
use Rattle.std.proofs.Common.{List, length}
use Rattle.apparmor_variables.specs.Variables.{Variable}
use Rattle.apparmor_variables.specs.inner.Way.{IsSound}
use Rattle.apparmor_variables.proofs.made_lists.Made.forget_first.Given as goal

abbrev pub invariant-loop-place : goal.invariant-loop-place
invariant-loop-place l = (variables : List Variable) → IsSound variables l.fn.self → IsSound variables l.self

abbrev pub decreases-loop-place : goal.decreases-loop-place
decreases-loop-place l = length l.self.needing_first.items
