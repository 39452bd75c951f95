use Rattle.row_rule.specs.laws.Writes.{agrees_each}
use Rattle.row_rule.proofs.laws.cells.agreement_is_of_each_read.Goals as goal

pub returns : goal.returns
returns c = agrees_each
