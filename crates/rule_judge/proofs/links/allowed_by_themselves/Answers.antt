use Rattle.rule_judge.proofs.LinkLaws.{allowed_set}
use Rattle.rule_judge.proofs.links.allowed_by_themselves.Goals as goal

pub returns : goal.returns
returns c = allowed_set c.one_verdict_is_right.ensures.some c.one_verdict_is_right.ensures.only
