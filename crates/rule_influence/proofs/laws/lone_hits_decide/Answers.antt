use Rattle.rule_influence.specs.laws.HitLaws.{lone_decides}
use Rattle.rule_influence.proofs.laws.lone_hits_decide.Goals as goal

pub returns : goal.returns
returns c = λ rules k p name. lone_decides rules p name k
