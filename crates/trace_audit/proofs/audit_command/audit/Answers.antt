use Rattle.trace_audit.proofs.Ends.{answered, unanswered}
use Rattle.trace_audit.proofs.audit_command.audit.Goals as goal

pub returns-in-Ok : goal.returns-in-Ok
returns-in-Ok g c =
    answered _ _ _ _ _ c.deref.result.now c.write_answer.result (rw c.deref.ensures.value c.in-Ok.ensures) c.write_answer.ensures

pub returns-in-Err : goal.returns-in-Err
returns-in-Err g c = unanswered _ _ _ _ _ _ _ c.in-Err.fault c.fail.result c.in-Err.ensures (rw c.status.ensures at c.fail.ensures)
