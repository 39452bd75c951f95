-- The outcome of one event.
use Rattle.std.specs.Prelude.{◌≡◌, Option, None, Result, Ok, Err, IfOk, IfErr, OnErr}
use Rattle.justification.specs.declared.answer.Answer.{Answer}
use Rattle.event_machine.specs.declared.event.StepFault.{StepFault}
use Rattle.event_machine.specs.declared.event.StepFault.TheVariants.{NotNow, NoMemory}
use Rattle.event_machine.specs.Machine.{Event, Machine}
use Rattle.event_machine.specs.Takes.{Takes}
use Rattle.event_machine.specs.Lawful.{IsLawful, HasTurn, TakesMemory}

-- It is taken; or nothing changed, and if the fault is `NotNow`, the event is neither legal nor a session's turn, and if it is
-- `NoMemory`, the event needs memory.
pub record IsStep (old : Machine) (event : Event) (result : Result (Option Answer) StepFault) (new : Machine) : Type 0 where
  pub ok : IfOk result (λ told. Takes old event told new)
  pub same : OnErr result (new ≡ old)
  pub not_now : IfErr result (λ fault. fault ≡ NotNow → ¬ (IsLawful old event))
  pub turn : IfErr result (λ fault. fault ≡ NotNow → ¬ (HasTurn old event))
  pub memory : IfErr result (λ fault. fault ≡ NoMemory → TakesMemory old event)

-- a step that is taken has no answer
abbrev pub silent_of : {A : Type 0} → Result A StepFault → Result (Option Answer) StepFault
silent_of (Ok taken) = Ok None
silent_of (Err fault) = Err fault
