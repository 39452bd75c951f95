use Rattle.std.proofs.Common.{length}
use Rattle.rule_reader.proofs.reader.words.+after_literal.Given as goal

abbrev pub decreases-after_literal : goal.decreases-after_literal
decreases-after_literal l = length l.word.now
