use Rattle.trace_lint.proofs.Tests.{nothing_by_each}
use Rattle.trace_lint.proofs.decisions.decides_nothing.Goals as goal

pub returns : goal.returns
returns c = nothing_by_each c.args.decided c.is_empty.result c.is_empty.ensures
