use Rattle.event_machine.specs.Machine.{first}
use Rattle.event_machine.proofs.OneCall.{one_call}
use Rattle.event_machine.proofs.laws.one_call_at_a_time.Goals as goal

pub returns : goal.returns
returns c capacity before middle after answers m s call next legal = one_call s call next before middle after
    (first capacity) answers m legal
