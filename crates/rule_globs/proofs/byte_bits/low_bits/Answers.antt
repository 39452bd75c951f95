use Rattle.rule_globs.proofs.ByteBits.{low_ones, low_ones_shl}
use Rattle.std.proofs.Common.{◌∙◌, sym, arith}
use Rattle.std.proofs.lemmas.Bool.{lt-ltb}
use Rattle.rule_globs.proofs.byte_bits.low_bits.Goals as goal

pub returns-then-count-lt64 : goal.returns-then-count-lt64
returns-then-count-lt64 c i lt = low_ones_shl c.args.count i c.if-count-lt64.true

pub returns-else-count-lt64 : goal.returns-else-count-lt64
returns-else-count-lt64 c i lt = low_ones 64 i ∙ lt-ltb i 64 lt ∙ sym (lt-ltb i c.args.count (omega (arith, lt, c.if-count-lt64.false)))
