use Rattle.std.proofs.Common.{rules}
use Rattle.trace_audit.specs.Answers.{asks}
use Rattle.trace_audit.proofs.asked.asked.Goals as goal

pub returns : goal.returns
returns c = c.passing.ensures (asks c.args.mask.now) (λ p passes post. search rules)
