-- What functions that do a command guarantee, and how far a call has come.
use Rattle.std.specs.Prelude.{◌≡◌, ◌⊎◌, ℕ, zero, suc, ◌+◌, ◌≤◌, ◌==◌, List, [], ◌∷◌, ◌++◌, length, replicate, Option, Some, None, Result}
use Rattle.std.specs.Prelude.{Ok, Err, Vec, if◌then◌else◌}
use Rattle.std.specs.List.{All, list_any}
use Rattle.std.specs.declared.alloc.Global.{Global}
use Rattle.names.specs.declared.errors.Errno.{Errno}
use Rattle.directory_tree.specs.declared.change.Change.{Change}
use Rattle.justification.specs.declared.answer.Answer.{Answer}
use Rattle.row_rule.specs.declared.cell.Cell.{Cell}
use Rattle.row_rule.specs.Row.{left_of}
use Rattle.tree_row.specs.Rows.{row_length}
use Rattle.event_machine.specs.Machine.{Event, Stage, Machine}
use Rattle.event_machine.specs.Machine.Stage.{resting, begun, unpublished, policed, walking, checked}
use Rattle.event_machine.specs.Machine.Event.{answer, open_change, set_cell}
use Rattle.event_machine.specs.Takes.{Takes}
use Rattle.event_machine.specs.Runs.{Runs}
use Rattle.event_machine.specs.Lawful.{HasTurn, IsTested}
use Rattle.trace_report.specs.Output.{line}
use Rattle.trace_script.specs.declared.stop.Stop.{Stop}
use Rattle.trace_script.specs.declared.stop.Stop.TheVariants.{Memory}
use Rattle.trace_steps.specs.StepLines.{Lines, LeadsOn}

-- a command was done and printed a line, which was composed; or memory was refused
abbrev pub HasLine : (Lines → Type 0) → Result (Vec ℕ Global) Stop → Type 0
HasLine Prints (Ok bytes) = (text : List ℕ) × (bytes.items ≡ line text) × Prints (text ∷ [])
HasLine Prints (Err stop) = stop ≡ Memory

-- the same of a command that may print nothing
abbrev pub IsDone : (Lines → Type 0) → Result (Option (Vec ℕ Global)) Stop → Type 0
IsDone Prints (Ok None) = Prints []
IsDone Prints (Ok (Some bytes)) = (text : List ℕ) × (bytes.items ≡ line text) × Prints (text ∷ [])
IsDone Prints (Err stop) = stop ≡ Memory

-- a change was opened, or is refused by a number
abbrev pub IsTriedOut : {T : Type 0} → Machine → Change → Machine → Result T Errno → Type 0
IsTriedOut old change new (Ok done) = Takes old (open_change change) None new
IsTriedOut old change new (Err errno) = IsTested old change (Err errno) × (new ≡ old)

-- cells were set, one after the other
abbrev pub AreSet : Machine → Machine → Type 0
AreSet old new = (count : ℕ) × Runs old (replicate count set_cell) [] new

-- an event was taken, or it wasn't its turn
abbrev pub IsTurnTaken : Machine → Event → Machine → Type 0
IsTurnTaken old event new = ((told : Option Answer) × Takes old event told new) ⊎ ((new ≡ old) × ¬ (HasTurn old event))

-- a session's call was answered, or it has begun none
abbrev pub IsAnswered : ℕ → Machine → Machine → Result (Option Answer) Stop → Type 0
IsAnswered s old new (Ok (Some told)) = (events : List Event) × All (LeadsOn s) events × Runs old (events ++ answer s ∷ [])
    ((s, told) ∷ []) new
IsAnswered s old new (Ok None) = ((old.sessions s).stage ≡ resting) × (new ≡ old)
IsAnswered s old new (Err stop) = stop ≡ Memory

-- a session's call was led on
abbrev pub IsLedOn : ℕ → Machine → Machine → Type 0
IsLedOn s old new = (events : List Event) × All (LeadsOn s) events × Runs old events [] new

-- how far a call has come
abbrev pub rank : Stage → ℕ
rank resting = 0
rank (begun call) = 1
rank (policed p) = 2
rank (walking p w (Some place)) = 3
rank (walking p w None) = 4
rank (unpublished call version) = 5
rank (checked p w) = 5

-- A session has begun no call, and nothing was done; or its call was led on, as far as this at least.
abbrev pub HasCome : ℕ → ℕ → Machine → Machine → Type 0
HasCome s least old new =
    (((old.sessions s).stage ≡ resting) × (new ≡ old)) ⊎ (IsLedOn s old new × (least ≤ rank (new.sessions s).stage))

-- ---- what is left to do

-- how many cells the keeper still has to set
abbrev pub cells_left : Machine → ℕ
cells_left m = length (left_of m.keeper.pending)

-- how many of the first places, up to this number, were not read
abbrev pub unread : ℕ → List Cell → ℕ
unread zero reads = 0
unread (suc n) reads = unread n reads + (if list_any (λ (read : Cell). read.place == n) reads then 0 else 1)

abbrev pub unread_in : ℕ → Stage → ℕ
unread_in room (walking p w next) = unread room w.reads
unread_in room resting = 0
unread_in room (begun call) = 0
unread_in room (policed p) = 0
unread_in room (unpublished call version) = 0
unread_in room (checked p w) = 0

-- how many cells a session's walk has not read
abbrev pub cells_unread : Machine → ℕ → ℕ
cells_unread m s = unread_in (row_length m.capacity) (m.sessions s).stage
