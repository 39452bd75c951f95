-- The answer is written, or its fault is reported.
use Rattle.trace_questions.specs.Search.{IsSearchOutput}
use Rattle.trace_questions.proofs.Arguments.{good_by_answer}
use Rattle.trace_questions.proofs.Endings.{answered}
use Rattle.trace_report.specs.laws.Endings.{answered_told}
use Rattle.trace_questions.proofs.search_command.search.Goals as goal

pub returns-in-Ok-clause-output : goal.returns-in-Ok-clause-output
returns-in-Ok-clause-output g c =
    let read = c.in-Ok.ensures.output in (
      read.0,
      read.1,
      answered _ (IsSearchOutput c.args.format c.args.quantifier c.args.perms.now c.args.pattern.now read.0) _ c.in-Ok.answer.text.items
          c.in-Ok.answer.found c.write_finding.result c.deref.ensures.value
          (good_by_answer c.args.format c.args.quantifier c.args.perms.now c.args.pattern.now read.0 c.in-Ok.answer.text.items
          c.in-Ok.answer.found read.2)
          read.2 c.write_finding.ensures,
    )

pub returns-in-Err-clause-output : goal.returns-in-Err-clause-output
returns-in-Err-clause-output g c =
    let read = c.in-Err.ensures.output in
    (read.0, read.1, answered_told _ _ _ _ c.in-Err.fault c.fail.result read.2 (rw c.status.ensures at c.fail.ensures))
