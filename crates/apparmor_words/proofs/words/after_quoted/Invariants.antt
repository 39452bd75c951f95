-- What the loop has passed is a part of the word.
use Rattle.std.proofs.Common.{◌≡◌, length}
use Rattle.apparmor_words.specs.Words.{quoted_at, quote_opened}
use Rattle.apparmor_words.proofs.words.after_quoted.Given as goal

abbrev pub invariant-loop-rest : goal.invariant-loop-rest
invariant-loop-rest l = quoted_at l.before l.rest ≡ quoted_at quote_opened l.bytes

abbrev pub decreases-loop-rest : goal.decreases-loop-rest
decreases-loop-rest l = length l.rest
