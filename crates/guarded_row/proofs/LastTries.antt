-- Tries that are the last ones, and tries after which others follow.
use Rattle.std.proofs.Common.{◌≡◌, ◌<◌, ℕ, zero, suc, inl, inr, subst, arith}
use Rattle.justification.specs.declared.answer.Answer.{Answer}
use Rattle.guarded_row.specs.Opens.{IsNotBusy}
use Rattle.guarded_row.specs.Tries.{IsBusy, IsTriedUpTo}

pub quiet : {S : Type 0} (Tries : S → S → Answer → Type 0) (most : ℕ) (a c : S) (x : Answer) → 0 < most → Tries a c x →
    IsNotBusy x → IsTriedUpTo Tries most a c x
unfolding IsTriedUpTo
quiet Tries zero a c x few t q = absurd (omega (arith, few))
quiet Tries (suc left) a c x few t q = inl (t, inl q)

pub last : {S : Type 0} (Tries : S → S → Answer → Type 0) (most : ℕ) (a c : S) (x : Answer) → suc zero ≡ most → Tries a c x →
    IsTriedUpTo Tries most a c x
unfolding IsTriedUpTo
last Tries most a c x one t = subst (λ n. IsTriedUpTo Tries n a c x) one (inl (t, inr (λ i. zero)))

pub again : {S : Type 0} (Tries : S → S → Answer → Type 0) (most left : ℕ) (a b c : S) (busy x : Answer) → suc left ≡ most →
    Tries a b busy → IsBusy busy → IsTriedUpTo Tries left b c x → IsTriedUpTo Tries most a c x
unfolding IsTriedUpTo
again Tries most left a b c busy x one t is more = subst (λ n. IsTriedUpTo Tries n a c x) one (inr (b, busy, t, is, more))
