use Rattle.std.proofs.Common.{sym}
use Rattle.event_machine.specs.Deeds.{published_by}
use Rattle.event_machine.proofs.Deeds.{run_did}
use Rattle.event_machine.proofs.laws.versions_never_fall.Goals as goal

pub returns-clause-tree : goal.returns-clause-tree
returns-clause-tree c from events answers to runs = (run_did from events answers to runs).begins

pub returns-clause-policy : goal.returns-clause-policy
returns-clause-policy c from events answers to runs = (published_by events, sym (run_did from events answers to runs).deeds_are)

pub returns-clause-capacity : goal.returns-clause-capacity
returns-clause-capacity c from events answers to runs = (run_did from events answers to runs).capacity
