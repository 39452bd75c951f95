use Rattle.row_index.specs.laws.Sizes.{index_enough, index_least, index_power, index_some}
use Rattle.row_index.proofs.laws.index_lengths_are_least_powers.Goals as goal

pub returns-clause-power : goal.returns-clause-power
returns-clause-power c = index_power

pub returns-clause-enough : goal.returns-clause-enough
returns-clause-enough c = index_enough

pub returns-clause-some : goal.returns-clause-some
returns-clause-some c = index_some

pub returns-clause-least : goal.returns-clause-least
returns-clause-least c = index_least
