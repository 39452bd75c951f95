use Rattle.trace_steps.specs.StepLines.{not_now}
use Rattle.trace_steps.proofs.CallEnds.{took_none}
use Rattle.trace_steps.proofs.calls.take_one.Goals as goal

pub returns-in_ok-not_now_line-in-Err-NotNow : goal.returns-in_ok-not_now_line-in-Err-NotNow
returns-in_ok-not_now_line-in-Err-NotNow g c = (
  not_now,
  c.in_ok-not_now_line-in-Err-NotNow.ensures,
  took_none _ _ _ (c.in-Err-NotNow.ensures.not_now c.in-Err-NotNow.field-0-is)
      c.in-Err-NotNow.ensures.same,
)
