-- The sessions of a machine, by their numbers.
use Rattle.std.specs.Prelude.{◌≡◌, ℕ, List, Option, Some, None}
use Rattle.std.specs.Map.{lookup}
use Rattle.std.specs.Ordering.{is_eq, nat_cmp}
use Rattle.event_machine.specs.Machine.{Session, new_session, with_session}

-- a session that isn't there never began a call
abbrev pub or_new : Option (ℕ × Session) → Session
or_new None = new_session
or_new (Some kept) = kept.1

-- the session with a number, in a table that keeps a capacity, and the sessions that began a call with the capacity of each
abbrev pub session_in : ℕ × List (ℕ × (ℕ × Session)) → ℕ → Session
session_in table number = or_new (lookup (λ key. is_eq (nat_cmp number key)) table.1)

-- the session with a number makes a step, and the others stay
abbrev pub StepsIn : (Session → Session → Type 0) → ℕ → (ℕ → Session) → (ℕ → Session) → Type 0
StepsIn Step number old new = (session : Session) × Step (old number) session × (new ≡ with_session old number session)
