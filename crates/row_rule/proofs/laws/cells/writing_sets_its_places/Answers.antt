use Rattle.row_rule.specs.laws.Writes.{length_write, write_else, write_append, write_last}
use Rattle.row_rule.proofs.laws.cells.writing_sets_its_places.Goals as goal

pub returns-clause-long : goal.returns-clause-long
returns-clause-long c = length_write

pub returns-clause-others : goal.returns-clause-others
returns-clause-others c = write_else

pub returns-clause-parts : goal.returns-clause-parts
returns-clause-parts c = write_append

pub returns-clause-last : goal.returns-clause-last
returns-clause-last c = write_last
