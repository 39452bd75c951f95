use Rattle.std.proofs.Common.{length, arith}
use Rattle.test_script.specs.laws.PlainWords.{plain_words}
use Rattle.test_script.proofs.laws.words_without_quotes_are_separated_by_blanks.Goals as goal

pub returns : goal.returns
returns c line free = plain_words (length line) line (omega arith) free
