-- Cells were set, and fewer are left.
use Rattle.trace_steps.specs.inner.Actions.{AreSet, cells_left}
use Rattle.trace_steps.proofs.changes.set_all_cells.Given as goal

abbrev pub invariant-loop : goal.invariant-loop
invariant-loop g l = AreSet (g.M.EventMachine.machine l.initial.machine) (g.M.EventMachine.machine l.machine)

abbrev pub decreases-loop : goal.decreases-loop
decreases-loop g l = cells_left (g.M.EventMachine.machine l.machine)
