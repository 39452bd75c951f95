use Rattle.apparmor_variables.proofs.CountLaws.{some_count, one_count}
use Rattle.apparmor_variables.proofs.laws.one_count.Goals as goal

pub returns-clause-some : goal.returns-clause-some
returns-clause-some c = some_count

pub returns-clause-one : goal.returns-clause-one
returns-clause-one c = one_count
