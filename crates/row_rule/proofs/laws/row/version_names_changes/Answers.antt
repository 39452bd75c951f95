use Rattle.row_rule.specs.laws.Rule.{same_seen}
use Rattle.row_rule.proofs.laws.row.version_names_changes.Goals as goal

pub returns : goal.returns
returns g c = λ capacity. same_seen (g.E.Encoding.encodes capacity)
