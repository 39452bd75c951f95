-- What the loop has passed is a part of the word.
use Rattle.std.proofs.Common.{◌≡◌, length, false}
use Rattle.apparmor_words.specs.Words.{bare_at}
use Rattle.apparmor_words.proofs.words.after_bare.Given as goal

abbrev pub invariant-loop-rest : goal.invariant-loop-rest
invariant-loop-rest l = bare_at l.escaped l.rest ≡ bare_at false l.bytes

abbrev pub decreases-loop-rest : goal.decreases-loop-rest
decreases-loop-rest l = length l.rest
