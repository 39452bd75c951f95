use Rattle.std.proofs.Common.{◌∙◌, ◌-◌, ◌*◌, ◌+◌, ap, nat_lt}
use Rattle.rule_globs.proofs.ByteBits.{word_and_range}
use Rattle.rule_globs.proofs.byte_bits.ByteBits.word_with.Goals as goal

pub returns : goal.returns
returns c i lt =
    word_and_range _ _ _ i (64 * c.args.index) c.args.range c.low_bits-not_before_first.type_inv lt
    (c.low_bits-not_before_first.ensures i lt ∙ ap (λ z. nat_lt i z)
    (c.saturating_sub.ensures ∙ ap (λ z. z - 64 * c.args.index) c.from.ensures))
    (c.low_bits-upto_last.ensures i lt ∙ ap (λ z. nat_lt i z) (c.saturating_sub-2.ensures ∙ ap (λ z. z + 1 - 64 * c.args.index)
    c.from-behind_last.ensures))
