use Rattle.trace_steps.specs.StepLines.{not_now}
use Rattle.trace_steps.proofs.CallEnds.{none_was_taken}
use Rattle.trace_steps.proofs.calls.none_taken_line.Goals as goal

pub returns-in_ok-not_now_line : goal.returns-in_ok-not_now_line
returns-in_ok-not_now_line c = (
  not_now,
  c.in_ok-not_now_line.ensures,
  none_was_taken c.args.most c.args.count c.if-most-gt0.true
      c.if-count-eq0.true,
)
