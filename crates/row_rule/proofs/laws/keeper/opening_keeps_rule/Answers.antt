use Rattle.row_rule.specs.laws.KeeperSteps.{opens, opening_later}
use Rattle.row_rule.proofs.laws.keeper.opening_keeps_rule.Goals as goal

pub returns-clause-kept : goal.returns-clause-kept
returns-clause-kept g c = λ capacity. opens (g.E.Encoding.encodes capacity)

pub returns-clause-later : goal.returns-clause-later
returns-clause-later g c = opening_later
