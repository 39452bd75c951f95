use Rattle.justification.proofs.Agreement.{one_verdict}
use Rattle.justification.proofs.laws.one_verdict_is_justified.Goals as goal

pub returns : goal.returns
returns c = one_verdict
