use Rattle.std.proofs.Common.{◌↔◌, Contains, IsTrue, sym, subst}
use Rattle.rule_influence.proofs.AddedNumbers.{found_there}
use Rattle.rule_influence.proofs.numbers.has.Goals as goal

pub returns : goal.returns
returns c up =
    subst (λ b. IsTrue b ↔ Contains c.args.list.now c.args.number) (sym c.is_ok.ensures.value)
    (found_there c.args.list.now c.args.number c.binary_search.result c.binary_search.ensures.position up)
