-- What the loop has passed is spaces.
use Rattle.std.proofs.Common.{◌≡◌, length}
use Rattle.rule_reader.specs.ReadWords.{after}
use Rattle.apparmor_words.specs.Statements.{is_space}
use Rattle.apparmor_words.proofs.statement.after_spaces.Given as goal

abbrev pub invariant-loop-rest : goal.invariant-loop-rest
invariant-loop-rest l = after is_space l.rest ≡ after is_space l.bytes

abbrev pub decreases-loop-rest : goal.decreases-loop-rest
decreases-loop-rest l = length l.rest
