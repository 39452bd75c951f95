-- The outcome of one event of a list.
use Rattle.std.specs.Prelude.{◌≡◌, ◌⊎◌, ℕ, List, ◌++◌, Option, Result, OnOk, OnErr}
use Rattle.interleaving_core.specs.Runs.{StopsAt}
use Rattle.justification.specs.declared.answer.Answer.{Answer}
use Rattle.event_machine.specs.Machine.{Event, Machine}
use Rattle.event_machine.specs.Takes.{Takes}
use Rattle.event_machine.specs.Lawful.{IsLawful}
use Rattle.event_machine.specs.Runs.{told_by}

-- It is taken, and its answer is appended to the others; or it isn't legal, and nothing changed.
abbrev pub PassesBy : Machine → Event → List (ℕ × Answer) → Machine → List (ℕ × Answer) → Type 0
PassesBy old event answers new more =
    ((told : Option Answer) × Takes old event told new × (more ≡ answers ++ told_by event told))
    ⊎ (¬ (IsLawful old event) × (new ≡ old) × (more ≡ answers))

-- If memory is refused, it is the event at which a list of them stops.
pub record IsPass {A B : Type 0} (old : Machine) (event : Event) (answers : List (ℕ × Answer)) (result : Result A B) (new : Machine)
    (more : List (ℕ × Answer)) : Type 0 where
  pub ok : OnOk result (PassesBy old event answers new more)
  pub err : OnErr result (StopsAt old event new)
