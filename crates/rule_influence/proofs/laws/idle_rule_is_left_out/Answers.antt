use Rattle.rule_influence.proofs.CutRules.{left_out_verdict}
use Rattle.rule_influence.proofs.laws.idle_rule_is_left_out.Goals as goal

pub returns : goal.returns
returns c = left_out_verdict
