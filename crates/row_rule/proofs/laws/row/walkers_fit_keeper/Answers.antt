use Rattle.row_rule.specs.laws.Rule.{walker_fits}
use Rattle.row_rule.proofs.laws.row.walkers_fit_keeper.Goals as goal

pub returns : goal.returns
returns g c = λ capacity. walker_fits (g.E.Encoding.encodes capacity)
