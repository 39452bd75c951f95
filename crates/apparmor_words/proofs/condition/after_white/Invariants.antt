-- What the loop has passed is whitespace.
use Rattle.std.proofs.Common.{◌≡◌, length}
use Rattle.rule_reader.specs.ReadWords.{after}
use Rattle.rule_reader.specs.TextBytes.{is_white}
use Rattle.apparmor_words.proofs.condition.after_white.Given as goal

abbrev pub invariant-loop-rest : goal.invariant-loop-rest
invariant-loop-rest l = after is_white l.rest ≡ after is_white l.bytes

abbrev pub decreases-loop-rest : goal.decreases-loop-rest
decreases-loop-rest l = length l.rest
