-- The text wasn't read.
use Rattle.trace_lint.specs.LintOutput.{IsLintOutput}
use Rattle.trace_lint.proofs.Written.{passed_on, unread}
use Rattle.trace_report.specs.laws.Endings.{text_of}
use Rattle.trace_lint.proofs.lint_command.answer.Goals as goal

pub returns-in_err-text : goal.returns-in_err-text
returns-in_err-text g c =
    let text = text_of (g.R.Read.remaining c.args.input.now) in (
      text.0,
      text.1,
      passed_on (IsLintOutput c.args.format text.0) c.from_residual.result c.in_err-text.field-0.0 c.from_residual.ensures.1
          (unread c.args.format text.0 c.in_err-text.field-0.0 c.in_err-text.ensures),
    )
