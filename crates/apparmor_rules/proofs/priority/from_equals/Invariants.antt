-- What the loop has passed is no =.
use Rattle.std.proofs.Common.{◌≡◌, ◌==◌, length, not}
use Rattle.rule_reader.specs.ReadWords.{after}
use Rattle.apparmor_rules.proofs.priority.from_equals.Given as goal

abbrev pub invariant-loop-rest : goal.invariant-loop-rest
invariant-loop-rest l = after (λ b. not (b == 61)) l.rest ≡ after (λ b. not (b == 61)) l.bytes

abbrev pub decreases-loop-rest : goal.decreases-loop-rest
decreases-loop-rest l = length l.rest
