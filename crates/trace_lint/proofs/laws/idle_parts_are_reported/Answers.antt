use Rattle.trace_lint.proofs.PartLaws.{letter_reported, whole_reported}
use Rattle.trace_lint.proofs.laws.idle_parts_are_reported.Goals as goal

pub returns-clause-rule : goal.returns-clause-rule
returns-clause-rule c = λ rules decided n are low high idle. whole_reported rules decided are n low high idle

pub returns-clause-letter : goal.returns-clause-letter
returns-clause-letter c = λ rules decided n letter are low high is idle. letter_reported rules decided are n low high letter is idle
