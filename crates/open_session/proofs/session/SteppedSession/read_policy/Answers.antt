use Rattle.std.proofs.Common.{ℕ, ◌∙◌, sym, ap}
use Rattle.event_machine.specs.Machine.{Session}
use Rattle.open_session.specs.inner.StageData.{call_of, stage_of}
use Rattle.open_session.proofs.session.SteppedSession.read_policy.Goals as goal

pub returns-in-Err-clause-memory : goal.returns-in-Err-clause-memory
returns-in-Err-clause-memory c = λ memory. (
  call_of c.in-Begun.call,
  sym (ap stage_of c.in-Begun.ensures.value ∙ ap (λ (v : ℕ × Session). v.1.stage) c.self.view_is),
  c.in-Err.ensures.memory,
)
