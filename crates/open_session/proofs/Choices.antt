-- What a walk has chosen, or how it ended, is what it may do.
use Rattle.std.proofs.Common.{ℕ, List, inl, inr}
use Rattle.std.specs.Prelude.{Ok, Err}
use Rattle.names.specs.declared.errors.Errno.TheVariants.{EINVAL}
use Rattle.row_rule.specs.declared.view.WalkerView.{WalkerView}
use Rattle.mediation.specs.Judgments.{reached_of}
use Rattle.event_machine.specs.Machine as machine
use Rattle.event_machine.specs.WalkSteps.{MayDo}
use Rattle.open_session.specs.declared.walk.Next.{Next}
use Rattle.open_session.specs.declared.walk.Next.TheVariants as next
use Rattle.open_session.specs.inner.StageData.{IsRightNext, next_of}

pub may_do : (capacity : ℕ) (room : List ℕ) (call : machine.Call) (w : WalkerView) (n : Next) → IsRightNext capacity room call w n →
    MayDo capacity call w (next_of n)
may_do capacity room call w (next.Read place) right = right
may_do capacity room call w next.Disturbed right = inl right
may_do capacity room call w (next.Reached file) right = inr (Ok (reached_of room file), right.2)
may_do capacity room call w (next.Refused errno) right = inr (Err errno, right.1)
-- no row agrees, so the words decide anything
may_do capacity room call w next.Torn right = inr (Err EINVAL, λ row t agrees sound encodes. absurd (right.1 row t agrees sound encodes))
