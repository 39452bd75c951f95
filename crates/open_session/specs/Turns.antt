-- Whose turn it is: how far a call has come, by the step that it takes next.
use Rattle.std.specs.Prelude.{◌≡◌, ◌⊎◌, ℕ, List, Some, None, IsSome}
use Rattle.mediation.specs.Deeds.{Deed, policy_after}
use Rattle.row_rule.specs.declared.view.WalkerView.{WalkerView}
use Rattle.event_machine.specs.Machine.{Call, Policed, Stage}
use Rattle.event_machine.specs.Machine.Stage.{resting, begun, unpublished, policed, walking, checked}

-- it may begin a call
abbrev pub IsResting : Stage → Type 0
IsResting stage = stage ≡ resting

-- it reads the policy next
abbrev pub IsBegun : Stage → Type 0
IsBegun stage = (call : Call) × (stage ≡ begun call)

-- and its profile is published, so that it takes a share of it
abbrev pub SharesProfile : List Deed → Stage → Type 0
SharesProfile deeds stage = (call : Call) × (stage ≡ begun call) × IsSome (policy_after deeds call.profile)

-- it reads the count next
abbrev pub IsPoliced : Stage → Type 0
IsPoliced stage = (p : Policed) × (stage ≡ policed p)

-- it reads a cell next
abbrev pub IsReading : Stage → Type 0
IsReading stage = (p : Policed) × (w : WalkerView) × (place : ℕ) × (stage ≡ walking p w (Some place))

-- it reads the count again next
abbrev pub IsWalked : Stage → Type 0
IsWalked stage = (p : Policed) × (w : WalkerView) × (stage ≡ walking p w None)

-- it answers next
abbrev pub IsAnswerable : Stage → Type 0
IsAnswerable stage = ((call : Call) × (version : ℕ) × (stage ≡ unpublished call version))
    ⊎ ((p : Policed) × (w : WalkerView) × (stage ≡ checked p w))
