-- What may be asked of a machine besides its steps.
use Rattle.std.specs.Prelude.{◌≡◌, ◌≢◌, ◌⊎◌, ℕ, zero, suc, ◌<◌, ◌^◌, List, [], ◌∷◌, ◌++◌, length, Option, Some, None, IsSome}
use Rattle.std.specs.Prelude.{Result, Ok, Err, IsOk}
use Rattle.names.specs.declared.errors.Errno.{Errno}
use Rattle.directory_tree.specs.declared.change.Change.{Change}
use Rattle.directory_tree.specs.Apply.{tree_after}
use Rattle.mediation.specs.Deeds.{policy_after}
use Rattle.justification.specs.declared.answer.Answer.{Answer}
use Rattle.row_rule.specs.Row.{left_of}
use Rattle.row_rule.specs.declared.view.WalkerView.{WalkerView}
use Rattle.event_machine.specs.Machine.{Call, Event, Policed, Machine}
use Rattle.event_machine.specs.Machine.Event.{begin, read_policy, read_count, read_cell, check_count, answer, open_change, set_cell}
use Rattle.event_machine.specs.Machine.Event.{close_change, publish}
use Rattle.event_machine.specs.Machine.Stage.{resting, begun, unpublished, policed, walking, checked}
use Rattle.event_machine.specs.Takes.{Moves, Takes}

-- some legal step takes the event
abbrev pub IsLawful : Machine → Event → Type 0
IsLawful old event = (told : Option Answer) × (new : Machine) × Takes old event told new

-- It is a session's turn to take the event: its call has reached exactly this step. A machine that goes on with each call takes
-- each event whose turn it is. This says nothing about the keeper's events and publications.
abbrev pub HasTurn : Machine → Event → Type 0
HasTurn m (begin s call) = (m.sessions s).stage ≡ resting
HasTurn m (read_policy s) = (call : Call) × ((m.sessions s).stage ≡ begun call)
HasTurn m (read_count s) = (p : Policed) × ((m.sessions s).stage ≡ policed p)
HasTurn m (read_cell s) = (p : Policed) × (w : WalkerView) × (place : ℕ) × ((m.sessions s).stage ≡ walking p w (Some place))
HasTurn m (check_count s) = (p : Policed) × (w : WalkerView) × ((m.sessions s).stage ≡ walking p w None)
HasTurn m (answer s) = ((call : Call) × (version : ℕ) × ((m.sessions s).stage ≡ unpublished call version))
    ⊎ ((p : Policed) × (w : WalkerView) × ((m.sessions s).stage ≡ checked p w))
HasTurn m (open_change change) = ⊥
HasTurn m set_cell = ⊥
HasTurn m close_change = ⊥
HasTurn m (publish deeds) = ⊥

-- Memory may be refused for these events, each where the machine has reached it: a call has copies of its profile's name and of its
-- path; a session takes a share of its profile, which is published; a walk keeps the word that it reads; the keeper plans a change
-- that the definition accepts; and the policy has what is published. No other event needs memory.
abbrev pub TakesMemory : Machine → Event → Type 0
TakesMemory m (begin s call) = HasTurn m (begin s call)
TakesMemory m (read_policy s) = (call : Call) × ((m.sessions s).stage ≡ begun call) × IsSome (policy_after m.deeds call.profile)
TakesMemory m (read_cell s) = HasTurn m (read_cell s)
TakesMemory m (open_change change) = (m.keeper.pending ≡ None) × IsOk (tree_after m.capacity (m.keeper.history ++ change ∷ []))
TakesMemory m (publish deeds) = (deeds ≢ []) × (length (m.deeds ++ deeds) < 2 ^ 60)
TakesMemory m (read_count s) = ⊥
TakesMemory m (check_count s) = ⊥
TakesMemory m (answer s) = ⊥
TakesMemory m set_cell = ⊥
TakesMemory m close_change = ⊥

-- this many readings of a cell
abbrev pub cell_reads : ℕ → ℕ → List Event
cell_reads s zero = []
cell_reads s (suc count) = read_cell s ∷ cell_reads s count

-- About a change, while none is open: it may be opened, and this many cells are to be set until it may be closed; or the definition
-- refuses it with this errno, including the one for too many changes.
abbrev pub IsTested : Machine → Change → Result ℕ Errno → Type 0
IsTested m change (Ok count) = IsLawful m (open_change change) × ((new : Machine) → Moves m (open_change change) new →
    length (left_of new.keeper.pending) ≡ count)
IsTested m change (Err errno) = (m.keeper.pending ≡ None) × (tree_after m.capacity (m.keeper.history ++ change ∷ []) ≡ Err errno)
