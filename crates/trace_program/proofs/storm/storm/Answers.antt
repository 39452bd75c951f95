use Rattle.std.proofs.Common.{inl}
use Rattle.trace_program.proofs.storm.storm.Goals as goal

pub returns-in-Ok : goal.returns-in-Ok
returns-in-Ok g c = inl (c.in-Ok.log, rw c.plan_of-plan.ensures at c.in-Ok.ensures, c.tell.ensures)
