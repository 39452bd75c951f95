use Rattle.verdict_cache.proofs.KeptEntries.{look_changes_no_answer, misses_change_nothing}
use Rattle.verdict_cache.proofs.laws.looks_change_no_answer.Goals as goal

pub returns-clause-missed : goal.returns-clause-missed
returns-clause-missed c = misses_change_nothing

pub returns-clause-answers : goal.returns-clause-answers
returns-clause-answers c = look_changes_no_answer
