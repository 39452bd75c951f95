-- How a session's data represent its stage, and what is known of them.
use Rattle.std.specs.Prelude.{◌≡◌, ℕ, ◌%◌, ◌<◌, ◌≤◌, List, Option, Some, None, Ok, Err, IfOk, IfErr, OnErr, IsSome, take}
use Rattle.names.specs.Limits.{longest_path}
use Rattle.mediation.specs.PolicyChanges.{judge_shared}
use Rattle.mediation.specs.Judgments.{reached_of}
use Rattle.row_rule.specs.declared.view.WalkerView.{WalkerView}
use Rattle.row_rule.specs.Row.{Agrees}
use Rattle.row_rule.specs.Steps.{ending}
use Rattle.tree_row.specs.Known.{InEach}
use Rattle.event_machine.specs.Machine as machine
use Rattle.event_machine.specs.Machine.Stage.{resting, begun, unpublished, policed, walking, checked}
use Rattle.event_machine.specs.WalkSteps.{Decides, MayRead, Tells}
use Rattle.open_session.specs.declared.call.Call.{Call}
use Rattle.open_session.specs.declared.call.Policed.{Policed}
use Rattle.open_session.specs.declared.walk.Next.{Next}
use Rattle.open_session.specs.declared.walk.Next.TheVariants as next
use Rattle.open_session.specs.declared.walk.Walk.{Walk}
use Rattle.open_session.specs.declared.walk.Checked.{Checked}
use Rattle.open_session.specs.declared.stage.Stage.{Stage}
use Rattle.open_session.specs.declared.stage.Stage.TheVariants as at
use Rattle.open_session.specs.declared.answers.Told.{Told}
use Rattle.open_session.specs.declared.walk_steps.Readings.{Readings}
use Rattle.event_machine.specs.declared.event.StepFault.TheVariants.{NoMemory}
use Rattle.open_session.specs.Steps.{CellReads}
use Rattle.open_session.specs.Seen.{SawTree}

abbrev pub call_of : Call → machine.Call
call_of call = record { profile = call.profile.items; path = call.path.items; ask = call.ask }

abbrev pub policed_of : Policed → machine.Policed
policed_of p = record { call = call_of p.call; policy_version = p.policy_version; judge = judge_shared p.profile }

-- a walk that has read the count once
abbrev pub walker_of : Walk → WalkerView
walker_of w = record { seen = w.seen.events; count_reads = 1; noted = w.noted; last = w.noted; reads = w.words.1 }

abbrev pub next_of : Next → Option ℕ
next_of (next.Read place) = Some place
next_of next.Disturbed = None
next_of (next.Reached file) = None
next_of (next.Refused errno) = None
next_of next.Torn = None

abbrev pub stage_of : Stage → machine.Stage
stage_of at.Resting = resting
stage_of (at.Begun call) = begun (call_of call)
stage_of (at.Unpublished call version) = unpublished (call_of call) version
stage_of (at.Policed p) = policed (policed_of p)
stage_of (at.Walking w) = walking (policed_of w.policed) (walker_of w) (next_of w.next)
stage_of (at.Checked c) = checked (policed_of c.walk.policed) (ending (walker_of c.walk) c.last c.seen.events)

-- What a walk has chosen, or how it ended, is right for the words that it read. If it reached a file, the name is at the front of
-- the room.
abbrev pub IsRightNext : ℕ → List ℕ → machine.Call → WalkerView → Next → Type 0
IsRightNext capacity room call w (next.Read place) = MayRead capacity call w place
IsRightNext capacity room call w next.Disturbed = w.noted % 2 ≡ 1
IsRightNext capacity room call w (next.Reached file) =
    (w.noted % 2 ≡ 0) × (file.name_length ≤ longest_path) × Decides capacity call w.reads (Ok (reached_of room file))
IsRightNext capacity room call w (next.Refused errno) = (w.noted % 2 ≡ 0) × Decides capacity call w.reads (Err errno)
IsRightNext capacity room call w next.Torn = (w.noted % 2 ≡ 0) × InEach capacity (Agrees w.reads) (λ row t. ⊥)

-- a walk over a row of this capacity
pub record IsWalk (capacity : ℕ) (room : List ℕ) (w : Walk) : Type 0 where
  pub of_row : w.words.0 ≡ capacity
  pub right : IsRightNext capacity room (call_of w.policed.call) (walker_of w) w.next

-- a walk that has ended and has read the count again
pub record IsEnded (capacity : ℕ) (room : List ℕ) (c : Checked) : Type 0 where
  pub walks : IsWalk capacity room c.walk
  pub ended : next_of c.walk.next ≡ None
  pub saw : SawTree capacity (ending (walker_of c.walk) c.last c.seen.events)

abbrev pub IsStanding : ℕ → List ℕ → Stage → Type 0
IsStanding capacity room at.Resting = Unit {0}
IsStanding capacity room (at.Begun call) = Unit {0}
IsStanding capacity room (at.Unpublished call version) = Unit {0}
IsStanding capacity room (at.Policed p) = Unit {0}
IsStanding capacity room (at.Walking w) = IsWalk capacity room w
IsStanding capacity room (at.Checked c) = IsEnded capacity room c

-- a walk as a stage of a session
abbrev pub walking_of : Walk → machine.Stage
walking_of w = walking (policed_of w.policed) (walker_of w) (next_of w.next)

-- `count` readings of a cell lead from one walk to the other
abbrev pub WalkReads : ℕ → List ℕ → ℕ → Walk → Walk → Type 0
WalkReads capacity cells count old new =
    (name : List ℕ) → CellReads capacity cells count record { name = name; stage = walking_of old } record {
      name =
          name;
      stage = walking_of new;
    }

-- At most `most` cells were read, and fewer only if none is needed or memory was refused for the next one.
pub record ReadsSome (capacity : ℕ) (cells : List ℕ) (most : ℕ) (room : List ℕ) (old : Walk) (new : Readings) : Type 0 where
  pub stands : IsWalk capacity room new.walk
  pub ok : IfOk new.count (λ count. (count ≤ most) × WalkReads capacity cells count old new.walk)
  pub all : IfOk new.count (λ count. count < most → next_of new.walk.next ≡ None)
  pub err : IfErr new.count (λ fault. (fault ≡ NoMemory) × ((count : ℕ) × (count < most) × WalkReads capacity cells count old new.walk))
  pub memory : OnErr new.count (IsSome (next_of new.walk.next))

-- the answer, with the name at the front of the room
abbrev pub IsTold : ℕ → List ℕ → Checked → Told → Type 0
IsTold capacity room c told = (told.name_length ≤ longest_path)
    × Tells capacity (policed_of c.walk.policed) (ending (walker_of c.walk) c.last c.seen.events) told.answer (take told.name_length room)
