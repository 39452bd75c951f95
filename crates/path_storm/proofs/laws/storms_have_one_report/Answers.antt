use Rattle.path_storm.proofs.OneCount.{one_count}
use Rattle.path_storm.proofs.laws.storms_have_one_report.Goals as goal

pub returns-clause-unjustified : goal.returns-clause-unjustified
returns-clause-unjustified c = λ log one other is also. one_count _ _ _ _ is.unjustified also.unjustified
