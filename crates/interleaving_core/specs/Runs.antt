-- The outcome of running a machine over a list of events.
use Rattle.std.specs.Prelude.{◌≡◌, ◌⊎◌, ℕ, List, [], ◌∷◌, ◌++◌, Option, Some}
use Rattle.justification.specs.declared.answer.Answer.{Answer}
use Rattle.event_machine.specs.Machine.{Event, Machine}
use Rattle.event_machine.specs.Machine.Event.{answer}
use Rattle.event_machine.specs.Takes.{Takes}
use Rattle.event_machine.specs.Lawful.{IsLawful, TakesMemory}
use Rattle.event_machine.specs.Runs.{told_by, Runs, Legal}
use Rattle.event_machine.specs.Right.{IsRight}

-- The events come one after the other. Each is taken, by a legal step, or it isn't legal and is passed over. The taken events are
-- listed in order, and so are the answers, each with its session.
abbrev pub Passes : Machine → List Event → List Event → List (ℕ × Answer) → Machine → Type 0
Passes from [] taken answers to = (taken ≡ []) × (answers ≡ []) × (to ≡ from)
Passes from (event ∷ events) taken answers to =
    ((told : Option Answer) × (between : Machine) × (rest : List Event) × (later : List (ℕ × Answer))
    × Takes from event told between × Passes between events rest later to × (taken ≡ event ∷ rest)
    × (answers ≡ told_by event told ++ later))
    ⊎ (¬ (IsLawful from event) × Passes from events taken answers to)

-- One of these events makes the session give this answer, by a legal step, after the events before it were taken and gave the
-- earlier answers.
pub record IsGiven (from : Machine) (events : List Event) (before : List (ℕ × Answer)) (s : ℕ) (told : Answer) : Type 0 where
  pub earlier : List Event
  pub later : List Event
  pub parts : events ≡ earlier ++ answer s ∷ later
  pub machine : Machine
  pub runs : Runs from earlier before machine
  pub next : Machine
  pub gives : Takes machine (answer s) (Some told) next

-- All of these events passed, with these answers. Those that were taken are a run. And each answer is right: whatever legal run led
-- to the old machine (the empty one for a new machine), an event that was taken gave the answer, and there it is justified by the
-- tree's changes and the policy's, at versions that were current at events of its own call.
pub record IsRun (old : Machine) (events : List Event) (answers : List (ℕ × Answer)) (new : Machine) : Type 0 where
  pub taken : List Event
  pub passed : Passes old events taken answers new
  pub legal : Runs old taken answers new
  pub right : (capacity : ℕ) (ago : List Event) (said : List (ℕ × Answer)) → Legal capacity ago said old
      → (before after : List (ℕ × Answer)) (s : ℕ) (told : Answer) → answers ≡ before ++ (s, told) ∷ after
      → (given : IsGiven old taken before s told) × IsRight capacity (ago ++ given.earlier) given.machine s told

-- Memory was refused at an event: it needs memory, and wasn't taken; or it was taken, and there is no room for its answer in the list.
abbrev pub StopsAt : Machine → Event → Machine → Type 0
StopsAt old event new = ((new ≡ old) × TakesMemory old event) ⊎ ((told : Answer) × Takes old event (Some told) new)

-- The events before one of them passed, and memory was refused at that one.
pub record IsCutShort (old : Machine) (events : List Event) (new : Machine) : Type 0 where
  pub passed : List Event
  pub event : Event
  pub left : List Event
  pub parts : events ≡ passed ++ event ∷ left
  pub taken : List Event
  pub answers : List (ℕ × Answer)
  pub between : Machine
  pub passes : Passes old passed taken answers between
  pub stops : StopsAt between event new
