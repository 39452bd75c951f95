use Rattle.rule_globs.specs.laws.Cuts.{zero_never}
use Rattle.rule_globs.proofs.laws.byte_zero_never.Goals as goal

pub returns : goal.returns
returns c = zero_never
