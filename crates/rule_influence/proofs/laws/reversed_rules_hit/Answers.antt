use Rattle.rule_influence.specs.laws.HitLaws.{hits_reversed}
use Rattle.rule_influence.proofs.laws.reversed_rules_hit.Goals as goal

pub returns : goal.returns
returns c = hits_reversed
