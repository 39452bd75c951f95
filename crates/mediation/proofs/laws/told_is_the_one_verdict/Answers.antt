use Rattle.mediation.proofs.ToldLaws.{is_told}
use Rattle.mediation.specs.Told.{told}
use Rattle.mediation.proofs.laws.told_is_the_one_verdict.Goals as goal

pub returns-clause-some : goal.returns-clause-some
returns-clause-some c = is_told

pub returns-clause-only : goal.returns-clause-only
returns-clause-only c r ask v h = c.records_tell_one_verdict.ensures r ask v (told r ask) h (is_told r ask)
