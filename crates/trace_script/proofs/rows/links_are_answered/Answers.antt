use Rattle.std.proofs.Common.{refl}
use Rattle.rule_globs.specs.PlainVerdict.{verdict}
use Rattle.trace_script.proofs.rows.links_are_answered.Goals as goal

pub returns : goal.returns
unfolding verdict
returns c limit = refl
