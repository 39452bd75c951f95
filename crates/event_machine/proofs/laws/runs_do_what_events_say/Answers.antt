use Rattle.std.proofs.Common.{arith}
use Rattle.event_machine.specs.Machine.{first}
use Rattle.event_machine.proofs.Deeds.{run_did}
use Rattle.event_machine.proofs.laws.runs_do_what_events_say.Goals as goal

pub returns-clause-tree : goal.returns-clause-tree
returns-clause-tree c capacity events answers m legal = (run_did (first capacity) events answers m legal).opened_are

pub returns-clause-version : goal.returns-clause-version
returns-clause-version c capacity events answers m legal = let h = (run_did (first capacity) events answers m legal).closed_are in
    omega (arith, h)

pub returns-clause-policy : goal.returns-clause-policy
returns-clause-policy c capacity events answers m legal = (run_did (first capacity) events answers m legal).deeds_are
