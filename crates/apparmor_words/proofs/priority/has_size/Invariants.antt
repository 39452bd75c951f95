-- What the loop has passed is zeros.
use Rattle.std.proofs.Common.{◌≡◌, length}
use Rattle.apparmor_words.specs.Priorities.{has_size}
use Rattle.apparmor_words.proofs.priority.has_size.Given as goal

abbrev pub invariant-loop-rest : goal.invariant-loop-rest
invariant-loop-rest l = has_size l.rest ≡ has_size l.bytes

abbrev pub decreases-loop-rest : goal.decreases-loop-rest
decreases-loop-rest l = length l.rest
