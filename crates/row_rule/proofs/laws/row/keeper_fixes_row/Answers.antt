use Rattle.row_rule.specs.laws.Rule.{keeper_fixes}
use Rattle.row_rule.proofs.laws.row.keeper_fixes_row.Goals as goal

pub returns : goal.returns
returns g c = λ capacity. keeper_fixes (g.E.Encoding.encodes capacity)
