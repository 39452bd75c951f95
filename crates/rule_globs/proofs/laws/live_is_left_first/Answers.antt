use Rattle.rule_globs.proofs.StepLaws.{live-by_steps}
use Rattle.rule_globs.proofs.laws.live_is_left_first.Goals as goal

pub returns : goal.returns
returns c = live-by_steps
