use Rattle.std.proofs.Common.{◌≡◌, Bool, true, false, refl, ap, ◌∙◌}
use Rattle.rule_globs.specs.inner.Blocks.{bit}
use Rattle.rule_globs.proofs.Blocks.{flag_added}
use Rattle.rule_globs.proofs.block.with_flag.Goals as goal
use mir.Val.{bool_byte}

as_bit : (b : Bool) → bool_byte b ≡ bit b
as_bit true = refl
as_bit false = refl

pub returns : goal.returns
returns c set bytes byte few word flag =
    flag_added set bytes byte c.args.word c.args.count c.from.result c.requires few word
    (c.from.ensures ∙ as_bit c.args.flag ∙ ap bit flag)
