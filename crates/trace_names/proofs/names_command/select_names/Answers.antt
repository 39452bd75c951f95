use Rattle.trace_report.specs.laws.Endings.{one_told}
use Rattle.trace_names.proofs.names_command.select_names.Goals as goal

pub returns-in-Err-clause-output : goal.returns-in-Err-clause-output
returns-in-Err-clause-output g c =
    let read = c.in-Err.ensures.output in (
      read.0,
      read.1,
      read.2,
      read.3,
      one_told _ _ _ _ c.in-Err.fault c.fail.result read.4 (rw c.status.ensures at c.fail.ensures),
    )
