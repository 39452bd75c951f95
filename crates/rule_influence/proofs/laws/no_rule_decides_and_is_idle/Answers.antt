use Rattle.std.proofs.Common.{arith}
use Rattle.rule_influence.specs.laws.HitLaws.{absent_idle}
use Rattle.rule_influence.proofs.laws.no_rule_decides_and_is_idle.Goals as goal

pub returns-clause-before : goal.returns-clause-before
returns-clause-before c = λ rules p name is. absent_idle rules p name 0 (λ n ge le e. omega (arith, ge, e))

pub returns-clause-past : goal.returns-clause-past
returns-clause-past c = λ rules k p past name is. absent_idle rules p name k (λ n ge le e. omega (arith, le, e, past))
