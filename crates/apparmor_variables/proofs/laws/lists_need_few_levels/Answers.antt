use Rattle.apparmor_variables.proofs.FewLevels.{few_levels, few_levels_of_texts}
use Rattle.apparmor_variables.proofs.laws.lists_need_few_levels.Goals as goal

pub returns-clause-list : goal.returns-clause-list
returns-clause-list c = few_levels

pub returns-clause-text : goal.returns-clause-text
returns-clause-text c = few_levels_of_texts
