-- What the loop has passed is within the parentheses.
use Rattle.std.proofs.Common.{◌≡◌, length, false}
use Rattle.apparmor_words.specs.Conditions.{parentheses_at}
use Rattle.apparmor_words.specs.Words.{quote_opened}
use Rattle.apparmor_words.proofs.condition.after_inside.Given as goal

abbrev pub invariant-loop-rest : goal.invariant-loop-rest
invariant-loop-rest l = parentheses_at l.quoted l.before l.rest ≡ parentheses_at false quote_opened l.bytes

abbrev pub decreases-loop-rest : goal.decreases-loop-rest
decreases-loop-rest l = length l.rest
