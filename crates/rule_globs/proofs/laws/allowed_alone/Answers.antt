use Rattle.rule_globs.specs.laws.PlainLaws.{allowed_by_hits}
use Rattle.rule_globs.proofs.laws.allowed_alone.Goals as goal

pub returns : goal.returns
returns c = allowed_by_hits
