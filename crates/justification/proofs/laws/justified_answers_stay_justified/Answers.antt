use Rattle.justification.specs.laws.Later.{justified_stays, tree_stays}
use Rattle.justification.proofs.laws.justified_answers_stay_justified.Goals as goal

pub returns-clause-answers : goal.returns-clause-answers
returns-clause-answers c = justified_stays

pub returns-clause-trees : goal.returns-clause-trees
returns-clause-trees c = tree_stays
