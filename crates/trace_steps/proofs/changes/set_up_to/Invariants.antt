-- `set` cells were set.
use Rattle.std.proofs.Common.{[], replicate}
use Rattle.event_machine.specs.Machine.Event.{set_cell}
use Rattle.event_machine.specs.Runs.{Runs}
use Rattle.trace_steps.proofs.changes.set_up_to.Given as goal

abbrev pub invariant-loop-set : goal.invariant-loop-set
invariant-loop-set g l = Runs (g.M.EventMachine.machine l.initial.machine) (replicate l.set set_cell) []
    (g.M.EventMachine.machine l.machine)
