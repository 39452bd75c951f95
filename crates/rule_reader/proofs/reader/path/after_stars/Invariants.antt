-- What the loop has passed is stars.
use Rattle.std.proofs.Common.{◌≡◌, length}
use Rattle.rule_reader.specs.ReadWords.{after}
use Rattle.rule_reader.specs.TextBytes.{is_star}
use Rattle.rule_reader.proofs.reader.path.after_stars.Given as goal

abbrev pub invariant-loop-rest : goal.invariant-loop-rest
invariant-loop-rest l = after is_star l.rest ≡ after is_star l.bytes

abbrev pub decreases-loop-rest : goal.decreases-loop-rest
decreases-loop-rest l = length l.rest
