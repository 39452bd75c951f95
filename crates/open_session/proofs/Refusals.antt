-- Where no step of a kind is legal, and where memory is refused for one.
use Rattle.std.proofs.Common.{◌≡◌, ℕ, List, Option, Some, None, OnErr, refl}
use Rattle.std.specs.Prelude.{Result, Ok, Err, IsSome}
use Rattle.row_rule.specs.declared.view.WalkerView.{WalkerView}
use Rattle.event_machine.specs.Machine.{Policed}
use Rattle.event_machine.specs.Machine.Stage.{walking}
use Rattle.open_session.specs.Steps.{ReadsCell, MayStep}
use Rattle.open_session.specs.Turns.{IsReading}

-- a walk that has ended reads no cell
pub no_cell : (capacity : ℕ) (cells name : List ℕ) (p : Policed) (w : WalkerView) (next : Option ℕ) → next ≡ None
    → ¬ (MayStep (ReadsCell capacity cells) record { name = name; stage = walking p w next })
no_cell capacity cells name p w next none may = let is : walking p w next ≡ walking may.1.0 may.1.1 (Some may.1.2) = may.1.5 in cc

pub no_reading : (p : Policed) (w : WalkerView) (next : Option ℕ) → next ≡ None → ¬ (IsReading (walking p w next))
no_reading p w next none reads = let is : walking p w next ≡ walking reads.0 reads.1 (Some reads.2) = reads.3 in cc

-- a walk that has chosen a place reads it next
reading_of : (p : Policed) (w : WalkerView) (next : Option ℕ) → IsSome next → IsReading (walking p w next)
reading_of p w None some = absurd (cc some)
reading_of p w (Some place) some = (p, w, place, refl)

pub reading_where : {A E : Type 0} (r : Result A E) (p : Policed) (w : WalkerView) (next : Option ℕ) → OnErr r (IsSome next) →
    OnErr r (IsReading (walking p w next))
reading_where (Ok done) p w next some = tt
reading_where (Err fault) p w next some = reading_of p w next some
