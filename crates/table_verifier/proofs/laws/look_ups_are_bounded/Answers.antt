use Rattle.table_verifier.proofs.RunningLaws.{bounded}
use Rattle.table_verifier.proofs.laws.look_ups_are_bounded.Goals as goal

pub returns : goal.returns
returns c = λ t s bytes bounds lt fits. bounded t bounds s bytes lt fits
