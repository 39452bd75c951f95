-- What the loop has passed is a part of the blank.
use Rattle.std.proofs.Common.{◌≡◌, length, false}
use Rattle.apparmor_words.specs.Words.{blank_at}
use Rattle.apparmor_words.proofs.words.after_blank.Given as goal

abbrev pub invariant-loop-rest : goal.invariant-loop-rest
invariant-loop-rest l = blank_at l.comment l.rest ≡ blank_at false l.bytes

abbrev pub decreases-loop-rest : goal.decreases-loop-rest
decreases-loop-rest l = length l.rest
