use Rattle.std.proofs.Common.{◌/◌, ◌%◌, ◌^◌, ◌==◌, Some, sym, ap, ◌∙◌, arith, rules}
use Rattle.names.specs.Permissions.{index}
use Rattle.image_judge.proofs.Sums.{set_there}
use Rattle.image_judge.proofs.permissions.set_of_number.Goals as goal

pub returns : goal.returns
returns c = ap Some (c.passing.ensures (λ p. c.args.number / 2 ^ index p % 2 == 1) (λ p passes post. search rules))
    ∙ sym (set_there c.args.number c.if-number-eq0.false (omega (arith, c.if-number.false)))
