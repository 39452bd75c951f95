use Rattle.justification.proofs.Agreement.{not_failed}
use Rattle.justification.proofs.laws.judged_is_not_failed.Goals as goal

pub returns : goal.returns
returns c = not_failed
