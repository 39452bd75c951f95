use Rattle.glob_automaton.proofs.ToldLaws.{told_is_verdict}
use Rattle.glob_automaton.proofs.laws.least_hits_tell_the_verdict.Goals as goal

pub returns : goal.returns
returns c = λ rules name r ask v least told. told_is_verdict rules name r ask least v told
