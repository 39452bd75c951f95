use Rattle.verdict_cache.specs.inner.SameQuestions.{asks_Decides}
use Rattle.verdict_cache.proofs.laws.questions_are_equal.Goals as goal

pub returns-clause-same : goal.returns-clause-same
returns-clause-same c p q = (asks_Decides p q).0

pub returns-clause-equal : goal.returns-clause-equal
returns-clause-equal c p q = (asks_Decides p q).1
