use Rattle.std.proofs.Common.{refl}
use Rattle.rule_explain.specs.Reasons.{reason}
use Rattle.rule_globs.specs.PlainVerdict.{verdict}
use Rattle.trace_test.proofs.rows.questions_are_answered.Goals as goal

pub returns : goal.returns
unfolding verdict reason
returns c limit = refl
