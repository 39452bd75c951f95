use Rattle.names.proofs.ToldLaws.{one_told}
use Rattle.names.proofs.laws.records_tell_one_verdict.Goals as goal

pub returns : goal.returns
returns c = one_told
