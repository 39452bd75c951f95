use Rattle.event_machine.proofs.Once.{answered_once}
use Rattle.event_machine.proofs.laws.answers_are_the_only_ones.Goals as goal

pub returns : goal.returns
returns c = answered_once
