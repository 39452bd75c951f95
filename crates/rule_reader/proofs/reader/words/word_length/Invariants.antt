-- The first n bytes are a word's.
use Rattle.std.proofs.Common.{◌≡◌, ◌+◌, ◌-◌, length, drop}
use Rattle.rule_reader.specs.ReadWords.{leading}
use Rattle.rule_reader.specs.TextBytes.{is_word_byte}
use Rattle.rule_reader.proofs.reader.words.word_length.Given as goal

abbrev pub invariant-loop-length : goal.invariant-loop-length
invariant-loop-length l = l.length + length (leading is_word_byte (drop l.length l.bytes)) ≡ length (leading is_word_byte l.bytes)

abbrev pub decreases-loop-length : goal.decreases-loop-length
decreases-loop-length l = length l.bytes - l.length
