use Rattle.rule_tests.proofs.Settled.{settled, unsettled}
use Rattle.rule_tests.proofs.fronts.faults_are_settled.Goals as goal

pub returns-clause-settled : goal.returns-clause-settled
returns-clause-settled c = settled

pub returns-clause-unsettled : goal.returns-clause-unsettled
returns-clause-unsettled c = unsettled
