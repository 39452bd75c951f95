use Rattle.row_rule.specs.laws.Rule.{opening_kept}
use Rattle.row_rule.proofs.laws.row.first_row_keeps_rule.Goals as goal

pub returns : goal.returns
returns g c = λ capacity. opening_kept (g.E.Encoding.encodes capacity)
