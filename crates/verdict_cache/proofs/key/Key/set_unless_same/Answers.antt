use Rattle.std.proofs.Common.{sym, ◌∙◌}
use Rattle.verdict_cache.specs.StructQuestions.{asked_of}
use Rattle.verdict_cache.specs.inner.SameQuestions.{equal_questions}
use Rattle.verdict_cache.proofs.key.Key.set_unless_same.Goals as goal

pub returns-then-is_of : goal.returns-then-is_of
returns-then-is_of c = sym (equal_questions (asked_of c.args.question.now) c.args.self.now (sym c.is_of.ensures ∙ c.if-is_of.true))
