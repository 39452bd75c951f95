-- The least number of a set, or 0 where it is empty.
use Rattle.std.proofs.Common.{◌≡◌, ◌≢◌, ⊎_elim, ℕ, ◌≤◌}
use Rattle.names.specs.Least.{IsLeastOrNone}

-- the least of a set that isn't empty is its member, and no member is less
pub least_there : (S : ℕ → Type 0) (n m : ℕ) → IsLeastOrNone S n → S m → S n × (n ≤ m)
least_there S n m least s = ⊎_elim (λ h. absurd (h.1 m s)) (λ h. (h.0, h.1 m s)) least

-- the least number of a set without 0 is 0 only where the set is empty
pub least_none : (S : ℕ → Type 0) (n : ℕ) → ((m : ℕ) → S m → m ≢ 0) → IsLeastOrNone S n → n ≡ 0 → (m : ℕ) → S m → ⊥
least_none S n nonzero least zero m s = nonzero n (least_there S n m least s).0 zero

-- a least number that isn't 0 is a member
pub least_some : (S : ℕ → Type 0) (n : ℕ) → IsLeastOrNone S n → n ≢ 0 → S n
least_some S n least nonzero = ⊎_elim (λ h. absurd (nonzero h.0)) (λ h. h.0) least

-- a set without members has no least number
pub none_least : (S : ℕ → Type 0) (n : ℕ) → IsLeastOrNone S n → ((m : ℕ) → S m → ⊥) → n ≡ 0
none_least S n least none = ⊎_elim (λ h. h.0) (λ h. absurd (none n h.0)) least
