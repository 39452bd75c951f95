use Rattle.std.proofs.Common.{[]}
use Rattle.apparmor_variables.proofs.ListLaws.{one_list}
use Rattle.apparmor_variables.proofs.ProblemLaws.{none_on, one_problem, problem_excludes, some_outcome}
use Rattle.apparmor_variables.proofs.laws.one_list_or_one_problem.Goals as goal

pub returns-clause-some : goal.returns-clause-some
returns-clause-some c = some_outcome

pub returns-clause-list : goal.returns-clause-list
returns-clause-list c = one_list

pub returns-clause-problem : goal.returns-clause-problem
returns-clause-problem c = λ variables name one other h g. one_problem variables [] name one (none_on variables) h other g

pub returns-clause-either : goal.returns-clause-either
returns-clause-either c = λ variables name problem listed has. problem_excludes variables [] name problem (none_on variables) has listed
