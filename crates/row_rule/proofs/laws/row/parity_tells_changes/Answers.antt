use Rattle.row_rule.specs.laws.Rule.{parity, even_encodes, half_word}
use Rattle.row_rule.proofs.laws.row.parity_tells_changes.Goals as goal

pub returns-clause-even : goal.returns-clause-even
returns-clause-even g c = λ capacity. parity (g.E.Encoding.encodes capacity)

pub returns-clause-encodes : goal.returns-clause-encodes
returns-clause-encodes g c = λ capacity. even_encodes (g.E.Encoding.encodes capacity)

pub returns-clause-half : goal.returns-clause-half
returns-clause-half g c = λ capacity. half_word (g.E.Encoding.encodes capacity)
