use Rattle.trace_commands.proofs.QuietEndings.{quietly_told}
use Rattle.trace_commands.proofs.quiet.judge_quietly.Goals as goal

pub returns-in-Err-clause-output : goal.returns-in-Err-clause-output
returns-in-Err-clause-output g c answers =
    let judged = c.in-Err.ensures.output in
    (judged.0, judged.1, quietly_told answers _ _ _ c.in-Err.fault c.fail.result judged.3 (rw c.status.ensures at c.fail.ensures))
