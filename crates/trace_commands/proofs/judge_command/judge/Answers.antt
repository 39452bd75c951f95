use Rattle.trace_report.specs.laws.Endings.{ends_told}
use Rattle.trace_commands.proofs.judge_command.judge.Goals as goal

pub returns-in-Err-clause-output : goal.returns-in-Err-clause-output
returns-in-Err-clause-output g c =
    let judged = c.in-Err.ensures.output in
    (judged.0, judged.1, ends_told _ _ _ _ c.in-Err.fault c.fail.result (judged.2 c.args.format) (rw c.status.ensures at c.fail.ensures))
