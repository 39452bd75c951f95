use Rattle.rule_globs.proofs.WholeSweeps.{end-live}
use Rattle.rule_globs.proofs.laws.end_is_live.Goals as goal

pub returns : goal.returns
returns c = end-live
