use Rattle.row_rule.specs.laws.KeeperSteps.{reads_word}
use Rattle.row_rule.proofs.laws.keeper.keeper_reads_its_row.Goals as goal

pub returns : goal.returns
returns g c = λ capacity. reads_word (g.E.Encoding.encodes capacity)
