use Rattle.row_rule.specs.laws.KeeperSteps.{sets_cell, setting_later}
use Rattle.row_rule.proofs.laws.keeper.setting_keeps_rule.Goals as goal

pub returns-clause-kept : goal.returns-clause-kept
returns-clause-kept g c = λ capacity. sets_cell (g.E.Encoding.encodes capacity)

pub returns-clause-later : goal.returns-clause-later
returns-clause-later g c = setting_later
