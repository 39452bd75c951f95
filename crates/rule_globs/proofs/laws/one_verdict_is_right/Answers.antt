use Rattle.rule_globs.proofs.OneVerdict.{one_verdict}
use Rattle.rule_globs.specs.laws.PlainLaws.{verdict_is_right}
use Rattle.rule_globs.proofs.laws.one_verdict_is_right.Goals as goal

pub returns-clause-some : goal.returns-clause-some
returns-clause-some c = verdict_is_right

pub returns-clause-only : goal.returns-clause-only
returns-clause-only c = one_verdict
