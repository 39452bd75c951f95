-- What all sessions of a table share.
use Rattle.std.specs.Prelude.{◌≡◌, ℕ, List, IfSome}
use Rattle.std.specs.Map.{lookup}
use Rattle.std.specs.Ordering.{is_eq, nat_cmp}
use Rattle.event_machine.specs.Machine.{Session}

-- each session reads a row of this capacity
abbrev pub ShareCapacity : ℕ → List (ℕ × (ℕ × Session)) → Type 0
ShareCapacity capacity entries = (number : ℕ) → IfSome (lookup (λ key. is_eq (nat_cmp number key)) entries) (λ kept. kept.0 ≡ capacity)
