-- What the words of a walk decide, as what it does next, and how many it read.
use Rattle.std.proofs.Common.{◌≡◌, ℕ, ◌+◌, ◌%◌, ◌<◌, ◌≤◌, true, List, length, None, IfOk, IfErr, OnErr, refl, arith}
use Rattle.std.specs.Prelude.{Result, Ok, Err, IsSome}
use Rattle.names.specs.Paths.{path_fault}
use Rattle.mediation.specs.Opens.{reached, can_be_asked}
use Rattle.row_rule.specs.declared.cell.Cell.{Cell}
use Rattle.row_rule.specs.declared.view.WalkerView.{WalkerView}
use Rattle.event_machine.specs.Machine as machine
use Rattle.event_machine.specs.declared.event.StepFault.TheVariants.{NoMemory}
use Rattle.open_session.specs.declared.outcome.Outcome.{Outcome}
use Rattle.open_session.specs.declared.outcome.Outcome.TheVariants as outcome
use Rattle.open_session.specs.declared.outcome.Lack.{Lack}
use Rattle.open_session.specs.declared.outcome.Lack.TheVariants as lack
use Rattle.open_session.specs.Outcomes.{Decides, IsLack}
use Rattle.open_session.specs.inner.StageData.{IsRightNext, next_of}
use Rattle.open_session.specs.inner.Ends.{next_after, counted_by}

pub right_next : (capacity : ℕ) (room : List ℕ) (call : machine.Call) (w : WalkerView) (old : List Cell) (most : ℕ)
    (end : Result Outcome Lack)
    → w.noted % 2 ≡ 0 → IfOk end (Decides capacity w.reads room (λ t. reached t call.path call.ask)) →
    IfErr end (IsLack capacity old w.reads most) → OnErr end ((can_be_asked call.ask ≡ true) × (path_fault call.path ≡ None)) →
    IsRightNext capacity room call w (next_after end)
right_next capacity room call w old most (Ok (outcome.Reached file)) even decides lacks sound = (even, decides.0, decides.1)
right_next capacity room call w old most (Ok (outcome.Refused errno)) even decides lacks sound = (even, decides)
right_next capacity room call w old most (Ok outcome.Torn) even decides lacks sound = (even, decides)
right_next capacity room call w old most (Err (lack.Wants place)) even decides lacks sound = (even, sound, lacks.0.0, lacks.0.1)
right_next capacity room call w old most (Err (lack.NoMemory place)) even decides lacks sound = (even, sound, lacks.0.0, lacks.0.1)

pub counts_ok : (n further : ℕ) (end : Result Outcome Lack) (Reads : ℕ → Type 0) → n ≤ further + 1 → Reads n
    → IfOk (counted_by n end) (λ count. (count ≤ further + 1) × Reads count)
counts_ok n further (Ok decided) Reads few reads = (few, reads)
counts_ok n further (Err (lack.Wants place)) Reads few reads = (few, reads)
counts_ok n further (Err (lack.NoMemory place)) Reads few reads = tt

pub counts_all : (capacity n further : ℕ) (old reads : List Cell) (end : Result Outcome Lack) → length reads + 1 ≡ length old + n
    → IfErr end (IsLack capacity old reads further) → IfOk (counted_by n end) (λ count. count < further + 1 →
    next_of (next_after end) ≡ None)
counts_all capacity n further old reads (Ok (outcome.Reached file)) same lacks = λ few. refl
counts_all capacity n further old reads (Ok (outcome.Refused errno)) same lacks = λ few. refl
counts_all capacity n further old reads (Ok outcome.Torn) same lacks = λ few. refl
counts_all capacity n further old reads (Err (lack.Wants place)) same lacks = λ few. absurd (omega (arith, lacks.1))
counts_all capacity n further old reads (Err (lack.NoMemory place)) same lacks = tt

pub counts_err : (capacity n further : ℕ) (old reads : List Cell) (end : Result Outcome Lack) (Reads : ℕ → Type 0) → length reads + 1
    ≡ length old + n → Reads n
    → IfErr end (IsLack capacity old reads further) →
    IfErr (counted_by n end) (λ fault. (fault ≡ NoMemory) × ((count : ℕ) × (count < further + 1) × Reads count))
counts_err capacity n further old reads (Ok decided) Reads same here lacks = tt
counts_err capacity n further old reads (Err (lack.Wants place)) Reads same here lacks = tt
counts_err capacity n further old reads (Err (lack.NoMemory place)) Reads same here lacks = (refl, (n, omega (arith, lacks.1), here))

-- memory is refused for the place that is read next
pub counts_memory : (n : ℕ) (end : Result Outcome Lack) → OnErr (counted_by n end) (IsSome (next_of (next_after end)))
counts_memory n (Ok decided) = tt
counts_memory n (Err (lack.Wants place)) = tt
counts_memory n (Err (lack.NoMemory place)) = refl
