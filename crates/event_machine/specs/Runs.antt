-- Legal runs: lists of events each of which is a legal step where it happens, beginning with the root alone.
use Rattle.std.specs.Prelude.{◌≡◌, ℕ, List, [], ◌∷◌, ◌++◌, Option, Some, None}
use Rattle.justification.specs.declared.answer.Answer.{Answer}
use Rattle.event_machine.specs.Machine.{Event, Machine, first}
use Rattle.event_machine.specs.Machine.Event.{begin, read_policy, read_count, read_cell, check_count, answer, open_change, set_cell}
use Rattle.event_machine.specs.Machine.Event.{close_change, publish}
use Rattle.event_machine.specs.Takes.{Takes}

-- an answer with its session
abbrev pub told_by : Event → Option Answer → List (ℕ × Answer)
told_by (answer s) (Some told) = (s, told) ∷ []
told_by (answer s) None = []
told_by (begin s call) told = []
told_by (read_policy s) told = []
told_by (read_count s) told = []
told_by (read_cell s) told = []
told_by (check_count s) told = []
told_by (open_change change) told = []
told_by set_cell told = []
told_by close_change told = []
told_by (publish deeds) told = []

-- these events happen one after the other, give these answers, and lead to this machine
abbrev pub Runs : Machine → List Event → List (ℕ × Answer) → Machine → Type 0
Runs from [] answers to = (answers ≡ []) × (to ≡ from)
Runs from (event ∷ events) answers to = (told : Option Answer) × (between : Machine) × (later : List (ℕ × Answer))
    × Takes from event told between × Runs between events later to × (answers ≡ told_by event told ++ later)

abbrev pub Legal : ℕ → List Event → List (ℕ × Answer) → Machine → Type 0
Legal capacity events answers to = Runs (first capacity) events answers to
