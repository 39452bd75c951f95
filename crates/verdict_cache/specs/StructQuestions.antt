-- The question that a struct asks.
use Rattle.verdict_cache.specs.declared.question.Question.{Question}
use Rattle.verdict_cache.specs.Questions.{Asked}

abbrev pub asked_of : Question → Asked
asked_of q = record { path = q.path.now; profile = q.profile.now; ask = q.ask; tree = q.tree_version; policy = q.policy_version }
