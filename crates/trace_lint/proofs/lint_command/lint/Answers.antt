-- The lines are written, or a fault is reported.
use Rattle.std.proofs.Common.{◌∙◌, ◌==◌, ap, not}
use Rattle.trace_lint.proofs.Written.{answered}
use Rattle.trace_report.specs.laws.Endings.{answered_told}
use Rattle.trace_lint.proofs.lint_command.lint.Goals as goal

pub returns-in-Ok : goal.returns-in-Ok
returns-in-Ok g c =
    let read = c.in-Ok.ensures in (
      read.0,
      read.1,
      answered c.args.format _ read.0 c.in-Ok.lines.items _ _ c.write_finding.result c.deref.ensures.value
          (ap not (c.is_empty.ensures ∙ ap (λ z. z == 0) c.in-Ok.lines.ok.0)) read.2 c.write_finding.ensures,
    )

pub returns-in-Err : goal.returns-in-Err
returns-in-Err g c =
    let read = c.in-Err.ensures in
    (read.0, read.1, answered_told _ _ _ _ c.in-Err.fault c.fail.result read.2 (rw c.status.ensures at c.fail.ensures))
