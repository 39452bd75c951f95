-- What a walk may do next, and its outcome, by the words that it has read: whatever it read, it may have read while the tree was
-- being changed.
use Rattle.std.specs.Prelude.{◌≡◌, ◌≢◌, ◌⊎◌, ℕ, ◌/◌, ◌%◌, ◌<◌, true, List, [], Option, Some, None, Result, Ok, Err}
use Rattle.std.specs.List.{All}
use Rattle.names.specs.declared.errors.Errno.{Errno}
use Rattle.names.specs.Paths.{path_fault}
use Rattle.mediation.specs.Judge.{verdict_by}
use Rattle.mediation.specs.Opens.{Reached, reached, can_be_asked}
use Rattle.justification.specs.declared.answer.Answer.{Answer}
use Rattle.justification.specs.declared.answer.Answer.TheVariants.{Judged, Failed, NoProfile, Busy, NoEntry}
use Rattle.row_rule.specs.declared.cell.Cell.{Cell}
use Rattle.row_rule.specs.declared.view.WalkerView.{WalkerView}
use Rattle.row_rule.specs.Row.{Agrees}
use Rattle.tree_row.specs.Known.{InEach}
use Rattle.tree_row.specs.Rows.{row_length}
use Rattle.event_machine.specs.Machine.{Call, Policed, Stage}
use Rattle.event_machine.specs.Machine.Stage.{resting, begun, unpublished, policed, walking, checked}

-- The words that were read decide what the open reaches: it is this for each row that agrees with them and each sound tree that
-- the row encodes. A fault of the path or of what is asked is decided by no words at all.
abbrev pub Decides : ℕ → Call → List Cell → Result Reached Errno → Type 0
Decides capacity call reads end = InEach capacity (Agrees reads) (λ row t. reached t call.path call.ask ≡ end)

-- neither what is asked nor the path is at fault by itself
abbrev pub IsSound : Call → Type 0
IsSound call = (can_be_asked call.ask ≡ true) × (path_fault call.path ≡ None)

-- After an even count a walk may read the word at any place of the row that it has not read yet. It may read the count again at
-- once after an odd count, and otherwise once the words that it has read decide.
abbrev pub MayRead : ℕ → Call → WalkerView → ℕ → Type 0
MayRead capacity call w place =
    (w.noted % 2 ≡ 0) × IsSound call × (place < row_length capacity) × All (λ (read : Cell). read.place ≢ place) w.reads

abbrev pub MayCheck : ℕ → Call → WalkerView → Type 0
MayCheck capacity call w = (w.noted % 2 ≡ 1) ⊎ ((end : Result Reached Errno) × Decides capacity call w.reads end)

abbrev pub MayDo : ℕ → Call → WalkerView → Option ℕ → Type 0
MayDo capacity call w (Some place) = MayRead capacity call w place
MayDo capacity call w None = MayCheck capacity call w

-- The counts that the walk began and ended with are the same even number, or they are not.
abbrev pub IsStill : WalkerView → Type 0
IsStill w = (w.noted % 2 ≡ 0) × (w.last ≡ w.noted)

abbrev pub IsDisturbed : WalkerView → Type 0
IsDisturbed w = (w.noted % 2 ≡ 1) ⊎ (w.last ≢ w.noted)

-- The answer after the count was read again, and the name that it judges: Busy with both counts; or what the words decide, at half
-- the count and the version of the policy that was read.
abbrev pub Tells : ℕ → Policed → WalkerView → Answer → List ℕ → Type 0
Tells capacity p w (Busy began ended) name = IsDisturbed w × (began ≡ w.noted) × (ended ≡ w.last) × (name ≡ [])
Tells capacity p w (Failed errno tree) name =
    IsStill w × (tree ≡ w.last / 2) × Decides capacity p.call w.reads (Err errno) × (name ≡ [])
Tells capacity p w (Judged verdict node tree policy) name =
    IsStill w × (tree ≡ w.last / 2) × (policy ≡ p.policy_version)
    × Decides capacity p.call w.reads (Ok record { name = name; node = node }) × (verdict ≡ verdict_by p.judge name p.call.ask)
Tells capacity p w (NoProfile policy) name = ⊥
Tells capacity p w NoEntry name = ⊥

-- A call answers if its profile was not published when it read the policy, or once it has read the count again.
abbrev pub MayAnswer : ℕ → Stage → Answer → List ℕ → Type 0
MayAnswer capacity (unpublished call version) told name = (told ≡ NoProfile version) × (name ≡ [])
MayAnswer capacity (checked p w) told name = Tells capacity p w told name
MayAnswer capacity resting told name = ⊥
MayAnswer capacity (begun call) told name = ⊥
MayAnswer capacity (policed p) told name = ⊥
MayAnswer capacity (walking p w next) told name = ⊥
