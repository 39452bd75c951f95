-- What a walk's cells record of the words that they read, and of the word that they lack.
use Rattle.std.specs.Prelude.{◌≡◌, ℕ, ◌<◌, List, [], ◌∷◌, ◌++◌, slice_get, Option, Some, None, Result, Ok, Err}
use Rattle.std.specs.Coded.{codes, Unit-prop}
use Rattle.mediation.specs.declared.opens.Reached.{Reached}
use Rattle.path_lookup.specs.declared.fault.WalkFault.{WalkFault}
use Rattle.path_lookup.specs.declared.fault.WalkFault.TheVariants as fault
use Rattle.row_rule.specs.declared.cell.Cell.{Cell}
use Rattle.open_session.specs.declared.outcome.Outcome.{Outcome}
use Rattle.open_session.specs.declared.outcome.Outcome.TheVariants as outcome
use Rattle.open_session.specs.declared.outcome.Lack.{Lack}
use Rattle.open_session.specs.declared.outcome.Lack.TheVariants as lack
use Rattle.open_session.specs.Words.{IsUnread, ReadsOn}
use Rattle.open_session.specs.Outcomes.{IsLeft}

-- A lacking word wasn't read. It is requested once as many words were read as may be; memory is refused before that.
pub record IsHonest (capacity : ℕ) (reads : List Cell) (most read : ℕ) (lacks : Option Lack) : Type 0 where
  pub wants : (place : ℕ) → lacks ≡ Some (lack.Wants place) → IsLeft capacity reads place × (read ≡ most)
  pub refused : (place : ℕ) → lacks ≡ Some (lack.NoMemory place) → IsLeft capacity reads place × (read < most)

-- the outcome of a walk with this end
abbrev pub end_by : Result Reached WalkFault → Option Lack → Result Outcome Lack
end_by (Ok file) lacks = Ok (outcome.Reached file)
end_by (Err (fault.Refused errno)) lacks = Ok (outcome.Refused errno)
end_by (Err fault.Torn) (Some lacks) = Err lacks
end_by (Err fault.Torn) None = Ok outcome.Torn

read_prop : (row : List ℕ) (read : Cell) (before : List Cell) →
    IsProp ((slice_get row read.place ≡ Some read.word) × IsUnread before read.place)
read_prop row read before = hlevel codes

-- there is at most one proof that more words were read
pub ReadsOn-prop : (row : List ℕ) (more old : List Cell) → IsProp (ReadsOn row more old)
ReadsOn-prop row [] old x y = Unit-prop x y
ReadsOn-prop row (read ∷ more) old x y = λ i.
    let first = read_prop row read (more ++ old) (x.0, x.1) (y.0, y.1) i in (first.0, first.1, ReadsOn-prop row more old x.2 y.2 i)
