use Rattle.std.proofs.Common.{rules, ◌≡◌, ◌∙◌, sym, true}
use Rattle.rule_reader.specs.TextBytes.{begins, is_letter_byte}
use Rattle.rule_reader.specs.laws.ReadCodeWords.{word_there, begins_at}
use Rattle.rule_reader.proofs.reader.words.word_of.Goals as goal

pub returns-in-len1-up-clause-some : goal.returns-in-len1-up-clause-some
returns-in-len1-up-clause-some c =
    let letter : begins is_letter_byte c.args.bytes.now ≡ true = begins_at is_letter_byte c.args.bytes.now c.in-len1-up.len_at_least
    ∙ sym c.is_ascii_alphabetic.ensures.value ∙ c.if-is_ascii_alphabetic.true in
    let at = word_there c.args.bytes.now letter in
    search rules
