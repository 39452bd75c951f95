use Rattle.rule_influence.specs.laws.IdleStandIns.{idle_stands, none_matter, stand_in_hits}
use Rattle.rule_influence.proofs.laws.idle_rules_have_stand_ins.Goals as goal

pub returns-clause-stand_in : goal.returns-clause-stand_in
returns-clause-stand_in c = idle_stands

pub returns-clause-hits : goal.returns-clause-hits
returns-clause-hits c = stand_in_hits

pub returns-clause-none : goal.returns-clause-none
returns-clause-none c = none_matter
