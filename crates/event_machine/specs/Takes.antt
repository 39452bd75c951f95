-- The legal steps: which event may happen when, what is answered, and the machine after it.
use Rattle.std.specs.Prelude.{◌≡◌, ◌≢◌, ℕ, ◌<◌, ◌^◌, List, [], ◌∷◌, ◌++◌, length, slice_get, Option, Some, None}
use Rattle.directory_tree.specs.declared.change.Change.{Change}
use Rattle.mediation.specs.Deeds.{policy_after}
use Rattle.mediation.specs.Judge.{Judge}
use Rattle.justification.specs.declared.answer.Answer.{Answer}
use Rattle.row_rule.specs.declared.cell.Cell.{Cell}
use Rattle.row_rule.specs.declared.view.WalkerView.{WalkerView}
use Rattle.row_rule.specs.Row.{write, count_of}
use Rattle.row_rule.specs.Steps.{newcomer, beginning, reading, ending, opening, setting, closing}
use Rattle.row_plan.specs.Changes.{EncodesChanges, IsPlan}
use Rattle.event_machine.specs.Machine.{Call, Event, Policed, Stage, Machine, moved_on, answered, with_keeper, with_deeds}
use Rattle.event_machine.specs.Machine.Event.{begin, read_policy, read_count, read_cell, check_count, answer, open_change, set_cell}
use Rattle.event_machine.specs.Machine.Event.{close_change, publish}
use Rattle.event_machine.specs.Machine.Stage.{resting, begun, unpublished, policed, walking, checked}
use Rattle.event_machine.specs.WalkSteps.{MayDo, MayAnswer}

-- the stage of a call that has read this about its profile in the policy of a version
abbrev pub after_policy : Call → ℕ → Option Judge → Stage
after_policy call version None = unpublished call version
after_policy call version (Some judge) = policed record { call = call; policy_version = version; judge = judge }

-- Each event except an answer only changes the machine.
abbrev pub Moves : Machine → Event → Machine → Type 0
-- Only a session at rest begins a call.
Moves old (begin s call) new = ((old.sessions s).stage ≡ resting) × (new ≡ moved_on old s (begun call))
-- Then it reads the policy: its version, and what it says of the profile's name.
Moves old (read_policy s) new = (call : Call) × ((old.sessions s).stage ≡ begun call)
    × (new ≡ moved_on old s (after_policy call (length old.deeds) (policy_after old.deeds call.profile)))
-- If the profile was published, it reads the count, and chooses what it does next.
Moves old (read_count s) new = (p : Policed) × (next : Option ℕ) × ((old.sessions s).stage ≡ policed p)
    × MayDo old.capacity p.call (beginning newcomer (count_of old.keeper) old.keeper.history) next
    × (new ≡ moved_on old s (walking p (beginning newcomer (count_of old.keeper) old.keeper.history) next))
-- It reads the word at the place that it chose, and chooses again.
Moves old (read_cell s) new = (p : Policed) × (w : WalkerView) × (place word : ℕ) × (next : Option ℕ)
    × ((old.sessions s).stage ≡ walking p w (Some place)) × (slice_get old.keeper.cells place ≡ Some word)
    × MayDo old.capacity p.call (reading w record { place = place; word = word }) next
    × (new ≡ moved_on old s (walking p (reading w record { place = place; word = word }) next))
-- It reads the count again if it chose to.
Moves old (check_count s) new = (p : Policed) × (w : WalkerView) × ((old.sessions s).stage ≡ walking p w None)
    × (new ≡ moved_on old s (checked p (ending w (count_of old.keeper) old.keeper.history)))
Moves old (answer s) new = ⊥
-- The keeper, at rest, opens an accepted change, with its plan, after which the row encodes the changes with this one.
Moves old (open_change change) new = (plan : List Cell) × (old.keeper.pending ≡ None)
    × IsPlan old.capacity old.keeper.cells old.keeper.history change plan
    × EncodesChanges old.capacity (write old.keeper.cells plan) (old.keeper.history ++ change ∷ [])
    × (new ≡ with_keeper old (opening old.keeper change plan))
-- It sets the next cell of the plan.
Moves old set_cell new = (change : Change) × (cell : Cell) × (left : List Cell)
    × (old.keeper.pending ≡ Some record { change = change; left = cell ∷ left }) × (new ≡ with_keeper old (setting old.keeper cell))
-- It closes the change if no cell is left.
Moves old close_change new = (change : Change) × (old.keeper.pending ≡ Some record { change = change; left = [] })
    × (new ≡ with_keeper old (closing old.keeper))
-- One or more changes of the policy are published, as long as there are fewer than 2 ^ 60 of them including these.
Moves old (publish deeds) new = (deeds ≢ []) × (length (old.deeds ++ deeds) < 2 ^ 60) × (new ≡ with_deeds old (old.deeds ++ deeds))

-- An answer leaves its session at rest, with the name that it judged.
abbrev pub Answers : Machine → ℕ → Answer → Machine → Type 0
Answers old s told new = (name : List ℕ) × MayAnswer old.capacity (old.sessions s).stage told name × (new ≡ answered old s name)

abbrev pub Takes : Machine → Event → Option Answer → Machine → Type 0
Takes old event None new = Moves old event new
Takes old event (Some told) new = (s : ℕ) × (event ≡ answer s) × Answers old s told new
