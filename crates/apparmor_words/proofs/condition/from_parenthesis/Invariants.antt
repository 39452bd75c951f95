-- What the loop has passed is no opening parenthesis.
use Rattle.std.proofs.Common.{◌≡◌, ◌==◌, length, not}
use Rattle.rule_reader.specs.ReadWords.{after}
use Rattle.apparmor_words.proofs.condition.from_parenthesis.Given as goal

abbrev pub invariant-loop-rest : goal.invariant-loop-rest
invariant-loop-rest l = after (λ b. not (b == 40)) l.rest ≡ after (λ b. not (b == 40)) l.bytes

abbrev pub decreases-loop-rest : goal.decreases-loop-rest
decreases-loop-rest l = length l.rest
