use Rattle.trace_commands.proofs.QuietEndings.{one_quietly_told}
use Rattle.trace_commands.proofs.quiet.match_quietly.Goals as goal

pub returns-in-Err-clause-output : goal.returns-in-Err-clause-output
returns-in-Err-clause-output g c answers =
    let read = c.in-Err.ensures.output in
    (read.0, read.1, one_quietly_told answers _ _ _ c.in-Err.fault c.fail.result read.2 (rw c.status.ensures at c.fail.ensures))
