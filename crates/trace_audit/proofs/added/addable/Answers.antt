use Rattle.std.proofs.Common.{rules}
use Rattle.trace_audit.specs.Answers.{is_addable}
use Rattle.trace_audit.proofs.added.addable.Goals as goal

pub returns : goal.returns
returns c = c.passing.ensures (is_addable c.args.perms) (λ p passes post. search rules)
