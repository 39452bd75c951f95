use Rattle.import_scope.specs.Scopes.{at_start}
use Rattle.import_scope.specs.laws.Given.{given_stays, nothing_given, nothing_replaced}
use Rattle.import_scope.proofs.laws.given_values_are_all_there_is.Goals as goal

pub returns-clause-given : goal.returns-clause-given
returns-clause-given c defines name items given = given_stays defines name given (at_start defines) items

pub returns-clause-preceding : goal.returns-clause-preceding
returns-clause-preceding c = nothing_replaced

pub returns-clause-none : goal.returns-clause-none
returns-clause-none c = nothing_given
