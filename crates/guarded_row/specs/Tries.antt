-- Tries of an open, of which a further one follows only where a change came between.
use Rattle.std.specs.Prelude.{◌≡◌, ◌⊎◌, ℕ, zero, suc}
use Rattle.justification.specs.declared.answer.Answer.{Answer}
use Rattle.guarded_row.specs.Opens.{IsNotBusy}

-- a change came between
abbrev pub IsBusy : Answer → Type 0
IsBusy answer = ¬ (IsNotBusy answer)

-- At most this many tries lead from one state to another: one whose answer is returned, which isn't busy unless no more are left; or
-- a busy one, and then the others.
unfoldable pub IsTriedUpTo : {S : Type 0} → (S → S → Answer → Type 0) → ℕ → S → S → Answer → Type 0
IsTriedUpTo Tries zero before now answer = ⊥
IsTriedUpTo {S} Tries (suc left) before now answer =
    (Tries before now answer × (IsNotBusy answer ⊎ (left ≡ 0)))
    ⊎ ((between : S) × (busy : Answer) × Tries before between busy × IsBusy busy × IsTriedUpTo Tries left between now answer)
