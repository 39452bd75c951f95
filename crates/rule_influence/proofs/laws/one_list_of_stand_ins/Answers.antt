use Rattle.rule_influence.specs.laws.IdleStandIns.{one_list}
use Rattle.rule_influence.proofs.laws.one_list_of_stand_ins.Goals as goal

pub returns : goal.returns
returns c = one_list
