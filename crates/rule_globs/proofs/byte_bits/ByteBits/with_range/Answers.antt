use Rattle.rule_globs.proofs.ByteBits.{in_four_words}
use Rattle.rule_globs.proofs.byte_bits.ByteBits.with_range.Goals as goal

pub returns : goal.returns
returns c = in_four_words _ _ _ _ c.args.self.words c.args.range c.word_with.ensures c.word_with-2.ensures c.word_with-3.ensures
    c.word_with-4.ensures
