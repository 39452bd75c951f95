use Rattle.trace_audit.proofs.NoLetters.{empty}
use Rattle.trace_audit.proofs.asked.asks_nothing.Goals as goal

pub returns : goal.returns
returns c = empty c.args.ask c.is_empty.result c.is_empty.ensures
