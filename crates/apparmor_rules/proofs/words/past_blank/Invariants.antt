-- What the loop has passed is blank.
use Rattle.std.proofs.Common.{◌≡◌, length, false}
use Rattle.apparmor_rules.specs.RuleWords.{past_blank}
use Rattle.apparmor_rules.proofs.words.past_blank.Given as goal

abbrev pub invariant-loop-rest : goal.invariant-loop-rest
invariant-loop-rest l = past_blank l.comment l.rest ≡ past_blank false l.bytes

abbrev pub decreases-loop-rest : goal.decreases-loop-rest
decreases-loop-rest l = length l.rest
