-- The walk was led on, and the cells that it has not read get fewer.
use Rattle.trace_steps.specs.inner.Actions.{IsLedOn, cells_unread}
use Rattle.trace_steps.proofs.calls.read_all_cells.Given as goal

abbrev pub invariant-loop-count : goal.invariant-loop-count
invariant-loop-count g l = IsLedOn l.session (g.M.EventMachine.machine l.initial.machine) (g.M.EventMachine.machine l.machine)

abbrev pub decreases-loop-count : goal.decreases-loop-count
decreases-loop-count g l = cells_unread (g.M.EventMachine.machine l.machine) l.session
