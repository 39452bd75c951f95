use Rattle.row_rule.specs.laws.WalkerSteps.{begins_walk, sees_count}
use Rattle.row_rule.proofs.laws.walker.beginning_keeps_rule.Goals as goal

pub returns-clause-kept : goal.returns-clause-kept
returns-clause-kept g c = λ capacity. begins_walk (g.E.Encoding.encodes capacity)

pub returns-clause-told : goal.returns-clause-told
returns-clause-told g c = λ capacity. sees_count (g.E.Encoding.encodes capacity)
