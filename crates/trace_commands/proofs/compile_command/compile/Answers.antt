use Rattle.trace_report.specs.Output.{whole_answer}
use Rattle.trace_commands.specs.Tables.{IsCompileOutput}
use Rattle.trace_report.specs.laws.Endings.{one_told}
use Rattle.trace_commands.specs.laws.OneOutput.{compile_arguments, one_given}
use Rattle.trace_commands.proofs.compile_command.compile.Goals as goal

pub returns-in-Ok : goal.returns-in-Ok
returns-in-Ok g c =
    let read = c.in-Ok.ensures in
    let bytes = c.deref.result.now in (
      read.0,
      read.1,
      one_given _ (IsCompileOutput c.args.depth read.0) (whole_answer bytes) c.write_answer.result (compile_arguments _ read.0)
          (rw c.deref.ensures.value read.2) c.write_answer.ensures,
    )

pub returns-in-Err : goal.returns-in-Err
returns-in-Err g c =
    let read = c.in-Err.ensures in
    (read.0, read.1, one_told _ _ _ _ c.in-Err.fault c.fail.result read.2 (rw c.status.ensures at c.fail.ensures))
