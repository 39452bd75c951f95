use Rattle.trace_lint.proofs.OneLint.{one_output}
use Rattle.trace_lint.proofs.laws.one_lint.Goals as goal

pub returns : goal.returns
returns c = one_output
