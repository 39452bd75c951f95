use Rattle.names.proofs.ToldLaws.{one_on}
use Rattle.names.proofs.laws.grounds_have_one_verdict.Goals as goal

pub returns : goal.returns
returns c = one_on
