use Rattle.justification.proofs.Current.{current_judgment}
use Rattle.justification.proofs.laws.current_judgment_is_the_answer.Goals as goal

pub returns : goal.returns
returns c = current_judgment
