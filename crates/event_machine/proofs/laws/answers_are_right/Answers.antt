use Rattle.event_machine.proofs.Rightly.{all_right}
use Rattle.event_machine.proofs.laws.answers_are_right.Goals as goal

pub returns : goal.returns
returns c = all_right
