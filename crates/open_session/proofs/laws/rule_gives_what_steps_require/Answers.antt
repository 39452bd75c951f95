use Rattle.open_session.proofs.Ruled.{sees}
use Rattle.open_session.proofs.laws.rule_gives_what_steps_require.Goals as goal

pub returns-clause-long : goal.returns-clause-long
returns-clause-long c = λ m rule. (rule 0).long

pub returns-clause-sees : goal.returns-clause-sees
returns-clause-sees c = sees
