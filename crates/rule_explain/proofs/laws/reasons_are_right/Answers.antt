use Rattle.rule_explain.proofs.ReasonLaws.{reason_is_right, one_reason}
use Rattle.rule_explain.proofs.laws.reasons_are_right.Goals as goal

pub returns-clause-some : goal.returns-clause-some
returns-clause-some c = reason_is_right

pub returns-clause-only : goal.returns-clause-only
returns-clause-only c = one_reason
