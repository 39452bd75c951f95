-- What the loop has passed is digits.
use Rattle.std.proofs.Common.{◌≡◌, length}
use Rattle.std.specs.Char.{is_ascii_digit}
use Rattle.rule_reader.specs.ReadWords.{after}
use Rattle.apparmor_words.proofs.priority.after_leading_digits.Given as goal

abbrev pub invariant-loop-rest : goal.invariant-loop-rest
invariant-loop-rest l = after is_ascii_digit l.rest ≡ after is_ascii_digit l.bytes

abbrev pub decreases-loop-rest : goal.decreases-loop-rest
decreases-loop-rest l = length l.rest
