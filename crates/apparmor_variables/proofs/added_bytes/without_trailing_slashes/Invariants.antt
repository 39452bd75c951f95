use Rattle.std.proofs.Common.{◌≡◌, length}
use Rattle.apparmor_variables.specs.PathTexts.{without_trailing_slashes}
use Rattle.apparmor_variables.proofs.added_bytes.without_trailing_slashes.Given as goal

abbrev pub invariant-loop-rest : goal.invariant-loop-rest
invariant-loop-rest l = without_trailing_slashes l.rest ≡ without_trailing_slashes l.text

abbrev pub decreases-loop-rest : goal.decreases-loop-rest
decreases-loop-rest l = length l.rest
