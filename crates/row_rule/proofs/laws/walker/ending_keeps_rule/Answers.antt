use Rattle.row_rule.specs.laws.WalkerSteps.{ends_walk, sees_count, was_whole}
use Rattle.row_rule.proofs.laws.walker.ending_keeps_rule.Goals as goal

pub returns-clause-kept : goal.returns-clause-kept
returns-clause-kept g c = λ capacity. ends_walk (g.E.Encoding.encodes capacity)

pub returns-clause-told : goal.returns-clause-told
returns-clause-told g c = λ capacity. sees_count (g.E.Encoding.encodes capacity)

pub returns-clause-whole : goal.returns-clause-whole
returns-clause-whole g c = λ capacity. was_whole (g.E.Encoding.encodes capacity)
