use Rattle.row_rule.specs.laws.WalkerSteps.{reads_cell}
use Rattle.row_rule.proofs.laws.walker.reading_keeps_rule.Goals as goal

pub returns : goal.returns
returns g c = λ capacity. reads_cell (g.E.Encoding.encodes capacity)
