use Rattle.rule_globs.specs.laws.Cuts.{by_cuts}
use Rattle.rule_globs.proofs.laws.takes_by_cuts.Goals as goal

pub returns : goal.returns
returns c = by_cuts
