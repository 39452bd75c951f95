use Rattle.verdict_cache.proofs.Bounds.{length-first, length-kept}
use Rattle.verdict_cache.proofs.laws.entries_are_bounded.Goals as goal

pub returns-clause-look : goal.returns-clause-look
returns-clause-look c = length-first

pub returns-clause-keep : goal.returns-clause-keep
returns-clause-keep c = length-kept
