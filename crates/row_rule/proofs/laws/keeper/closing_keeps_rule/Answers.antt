use Rattle.row_rule.specs.laws.KeeperSteps.{closes, closing_later}
use Rattle.row_rule.proofs.laws.keeper.closing_keeps_rule.Goals as goal

pub returns-clause-kept : goal.returns-clause-kept
returns-clause-kept g c = λ capacity. closes (g.E.Encoding.encodes capacity)

pub returns-clause-later : goal.returns-clause-later
returns-clause-later g c = closing_later
