-- What the loop has passed separates values.
use Rattle.std.proofs.Common.{◌≡◌, length}
use Rattle.apparmor_words.specs.Assignments.{past_separators}
use Rattle.apparmor_words.proofs.assignment.after_separators.Given as goal

abbrev pub invariant-loop-rest : goal.invariant-loop-rest
invariant-loop-rest l = past_separators l.rest ≡ past_separators l.bytes

abbrev pub decreases-loop-rest : goal.decreases-loop-rest
decreases-loop-rest l = length l.rest
