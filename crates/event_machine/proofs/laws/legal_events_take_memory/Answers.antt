use Rattle.event_machine.proofs.Memory.{begins, reads_policy, publishes, reads_cell, opens_change}
use Rattle.event_machine.proofs.laws.legal_events_take_memory.Goals as goal

pub returns-clause-begin : goal.returns-clause-begin
returns-clause-begin c = begins

pub returns-clause-policy : goal.returns-clause-policy
returns-clause-policy c = reads_policy

pub returns-clause-publication : goal.returns-clause-publication
returns-clause-publication c = publishes

pub returns-clause-cell : goal.returns-clause-cell
returns-clause-cell c = reads_cell

pub returns-clause-change : goal.returns-clause-change
returns-clause-change c = opens_change
