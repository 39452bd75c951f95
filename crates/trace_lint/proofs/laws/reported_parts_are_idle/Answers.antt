use Rattle.trace_lint.proofs.PartLaws.{parts_idle}
use Rattle.trace_lint.proofs.laws.reported_parts_are_idle.Goals as goal

pub returns : goal.returns
returns c = parts_idle
