use Rattle.row_rule.specs.laws.WalkerSteps.{enters}
use Rattle.row_rule.proofs.laws.walker.entering_keeps_rule.Goals as goal

pub returns : goal.returns
returns g c = λ capacity. enters (g.E.Encoding.encodes capacity)
