-- The least of a set.
use Rattle.std.proofs.Common.{ℕ, inl, inr, ⊎_elim}
use Rattle.names.specs.Least.{IsLeastOrNone}

-- the same members have the same least one
pub least-same : (S T : ℕ → Type 0) (n : ℕ) → ((m : ℕ) → S m → T m) → ((m : ℕ) → T m → S m) → IsLeastOrNone S n → IsLeastOrNone T n
least-same S T n to back least = ⊎_elim
    (λ h. inl (h.0, λ m t. h.1 m (back m t)))
    (λ h. inr (to n h.0, λ m t. h.1 m (back m t)))
    least
