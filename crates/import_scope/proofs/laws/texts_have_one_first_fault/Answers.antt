use Rattle.import_scope.proofs.FaultLaws.{one_fault, some_fault}
use Rattle.import_scope.proofs.laws.texts_have_one_first_fault.Goals as goal

pub returns-clause-some : goal.returns-clause-some
returns-clause-some c = some_fault

pub returns-clause-one : goal.returns-clause-one
returns-clause-one c = one_fault
