use Rattle.apparmor_variables.proofs.PathLaws.{one_text, one_path_problem, text_excludes, some_text}
use Rattle.apparmor_variables.proofs.laws.one_text_or_one_problem.Goals as goal

pub returns-clause-some : goal.returns-clause-some
returns-clause-some c = some_text

pub returns-clause-text : goal.returns-clause-text
returns-clause-text c = one_text

pub returns-clause-problem : goal.returns-clause-problem
returns-clause-problem c = one_path_problem

pub returns-clause-either : goal.returns-clause-either
returns-clause-either c = text_excludes
