use Rattle.trace_lint.proofs.Tests.{none_by_shares}
use Rattle.trace_lint.proofs.decisions.decides_none_of.Goals as goal

pub returns : goal.returns
returns c = none_by_shares c.args.perms c.args.decided c.intersects.result c.intersects.ensures
