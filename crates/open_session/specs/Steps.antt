-- The steps of one session's call: each case of the machine's steps that moves a session, stated for that session alone.
use Rattle.std.specs.Prelude.{◌≡◌, ℕ, zero, suc, List, length, slice_get, Option, Some, None}
use Rattle.mediation.specs.Deeds.{Deed, policy_after}
use Rattle.justification.specs.declared.answer.Answer.{Answer}
use Rattle.row_rule.specs.declared.view.KeeperView.{KeeperView}
use Rattle.row_rule.specs.declared.view.WalkerView.{WalkerView}
use Rattle.row_rule.specs.Row.{count_of}
use Rattle.row_rule.specs.Steps.{newcomer, beginning, reading, ending}
use Rattle.event_machine.specs.Machine.{Call, Policed, Stage, Session}
use Rattle.event_machine.specs.Machine.Stage.{resting, begun, policed, walking, checked}
use Rattle.event_machine.specs.Takes.{after_policy}
use Rattle.event_machine.specs.WalkSteps.{MayDo, MayAnswer}

-- the call goes on, or it is answered
abbrev pub going_on : Session → Stage → Session
going_on old stage = record { name = old.name; stage = stage }

abbrev pub at_rest_with : List ℕ → Session
at_rest_with name = record { name = name; stage = resting }

-- only a session at rest begins a call
abbrev pub Begins : Call → Session → Session → Type 0
Begins call old new = (old.stage ≡ resting) × (new ≡ going_on old (begun call))

-- then it reads the policy that these changes made: its version, and what it says about the profile's name
abbrev pub ReadsPolicy : List Deed → Session → Session → Type 0
ReadsPolicy deeds old new = (call : Call) × (old.stage ≡ begun call)
    × (new ≡ going_on old (after_policy call (length deeds) (policy_after deeds call.profile)))

-- if the profile was published it reads the count, and chooses what it does next
abbrev pub ReadsCount : ℕ → KeeperView → Session → Session → Type 0
ReadsCount capacity keeper old new = (p : Policed) × (next : Option ℕ) × (old.stage ≡ policed p)
    × MayDo capacity p.call (beginning newcomer (count_of keeper) keeper.history) next
    × (new ≡ going_on old (walking p (beginning newcomer (count_of keeper) keeper.history) next))

-- it reads the word at the chosen place, and chooses again
abbrev pub ReadsCell : ℕ → List ℕ → Session → Session → Type 0
ReadsCell capacity cells old new = (p : Policed) × (w : WalkerView) × (place word : ℕ) × (next : Option ℕ)
    × (old.stage ≡ walking p w (Some place)) × (slice_get cells place ≡ Some word)
    × MayDo capacity p.call (reading w record { place = place; word = word }) next
    × (new ≡ going_on old (walking p (reading w record { place = place; word = word }) next))

-- `count` readings of a cell, one after the other
abbrev pub CellReads : ℕ → List ℕ → ℕ → Session → Session → Type 0
CellReads capacity cells zero old new = new ≡ old
CellReads capacity cells (suc count) old new =
    (between : Session) × ReadsCell capacity cells old between × CellReads capacity cells count between new

-- it reads the count again if it chose to
abbrev pub ChecksCount : KeeperView → Session → Session → Type 0
ChecksCount keeper old new = (p : Policed) × (w : WalkerView) × (old.stage ≡ walking p w None)
    × (new ≡ going_on old (checked p (ending w (count_of keeper) keeper.history)))

-- an answer leaves it at rest, with the name that it judged
abbrev pub Answers : ℕ → Answer → Session → Session → Type 0
Answers capacity told old new = (name : List ℕ) × MayAnswer capacity old.stage told name × (new ≡ at_rest_with name)

-- some step of the kind may be made
abbrev pub MayStep : (Session → Session → Type 0) → Session → Type 0
MayStep Step old = (new : Session) × Step old new

abbrev pub MayTell : ℕ → Session → Type 0
MayTell capacity old = (told : Answer) × (new : Session) × Answers capacity told old new
