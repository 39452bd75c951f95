-- The answer is written, or why there is none.
use Rattle.std.specs.Prelude.{option_map}
use Rattle.trace_questions.specs.Differences.{IsDiffOutput, below_asked}
use Rattle.trace_questions.proofs.DiffAnswers.{diff_told, found_good_for}
use Rattle.trace_questions.proofs.Endings.{answered}
use Rattle.trace_questions.proofs.difference.differ.Goals as goal

pub returns-in-Ok-clause-output : goal.returns-in-Ok-clause-output
returns-in-Ok-clause-output g c =
    let h = c.in-Ok.ensures.output in
    let w = c.args.report in
    let pattern = option_map (λ pattern. pattern.now) c.args.below in
    let bytes = c.in-Ok.answer.text.items in
    let found = c.in-Ok.answer.found in (
      h.0,
      h.1,
      h.2,
      h.3,
      answered _ (IsDiffOutput w pattern h.0 h.1) c.deref.result.now bytes found c.write_finding.result c.deref.ensures.value
          (found_good_for w (below_asked pattern) h.0 h.1 bytes found h.4) h.4 c.write_finding.ensures,
    )

pub returns-in-Err-clause-output : goal.returns-in-Err-clause-output
returns-in-Err-clause-output g c =
    let h = c.in-Err.ensures.output in
    let pattern = option_map (λ pattern. pattern.now) c.args.below in (
      h.0,
      h.1,
      h.2,
      h.3,
      diff_told _ _ _ (IsDiffOutput c.args.report pattern h.0 h.1) c.in-Err.fault c.fail.result h.4
          (rw c.status.ensures at c.fail.ensures),
    )
