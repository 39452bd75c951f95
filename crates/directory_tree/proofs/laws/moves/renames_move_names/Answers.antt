use Rattle.directory_tree.proofs.Renamed.{within, others, all}
use Rattle.directory_tree.proofs.laws.moves.renames_move_names.Goals as goal

pub returns-clause-within : goal.returns-clause-within
returns-clause-within c = within

pub returns-clause-others : goal.returns-clause-others
returns-clause-others c = others

pub returns-clause-all : goal.returns-clause-all
returns-clause-all c = all
