-- Changes of the tree, cell by cell.
use Rattle.std.proofs.Common.{◌≡◌, ℕ, zero, suc, ◌+◌, true, List, [], ◌∷◌, ◌++◌, replicate, Option, Some, None, Ok, add-one, is_some, refl}
use Rattle.std.proofs.Common.{ap, ◌∙◌, subst}
use Rattle.directory_tree.specs.declared.change.Change.{Change}
use Rattle.justification.specs.declared.answer.Answer.{Answer}
use Rattle.row_rule.specs.declared.cell.Cell.{Cell}
use Rattle.row_rule.specs.declared.view.Pending.{Pending}
use Rattle.row_rule.specs.Steps.{one_fewer, setting, closing}
use Rattle.event_machine.specs.Machine.{Event, Machine, with_keeper}
use Rattle.event_machine.specs.Machine.Event.{read_cell, open_change, set_cell, close_change}
use Rattle.event_machine.specs.Takes.{Takes}
use Rattle.event_machine.specs.Runs.{Runs}
use Rattle.event_machine.specs.Lawful.{IsLawful, IsTested, cell_reads}
use Rattle.event_machine.specs.laws.Runs.{run_snoc}
use Rattle.trace_steps.specs.inner.Actions.{AreSet}

-- ---- one event after the other

replicated : {A : Type 0} (count : ℕ) (x : A) → replicate count x ++ x ∷ [] ≡ replicate (suc count) x
replicated zero x = refl
replicated (suc count) x = ap (λ xs. x ∷ xs) (replicated count x)

pub reads_are : (s count : ℕ) → cell_reads s count ≡ replicate count (read_cell s)
reads_are s zero = refl
reads_are s (suc count) = ap (λ events. read_cell s ∷ events) (reads_are s count)

set_silently : (count : ℕ) (m mid n : Machine) (told : Option Answer) → Runs m (replicate count set_cell) [] mid →
    Takes mid set_cell told n → Runs m (replicate (suc count) set_cell) [] n
set_silently count m mid n told runs takes = subst (λ (events : List Event). Runs m events [] n) (replicated count set_cell)
    (run_snoc m (replicate count set_cell) [] mid set_cell told n runs takes)

pub set_more : (count : ℕ) (m mid n : Machine) (told : Option Answer) → Runs m (replicate count set_cell) [] mid →
    Takes mid set_cell told n → Runs m (replicate (count + 1) set_cell) [] n
set_more count m mid n told runs takes = rw add-one (set_silently count m mid n told runs takes)

pub set_one : (m mid n : Machine) (told : Option Answer) → AreSet m mid → Takes mid set_cell told n → AreSet m n
set_one m mid n told (count, runs) takes = (suc count, set_silently count m mid n told runs takes)

-- ---- a change that is open

stays_open : (m n : Machine) (told : Option Answer) → Takes m set_cell told n → is_some n.keeper.pending ≡ true
stays_open m n (Some told) (s, is, answers) = cc
stays_open m n None (change, cell, left, opened, is) = ap (λ (z : Machine). is_some z.keeper.pending) is
    ∙ ap (λ (p : Option Pending). is_some (one_fewer p)) opened

pub still_open : (m n : Machine) (count : ℕ) (answers : List (ℕ × Answer)) → is_some m.keeper.pending ≡ true →
    Runs m (replicate count set_cell) answers n → is_some n.keeper.pending ≡ true
still_open m n zero answers opened (none, same) = rw same opened
still_open m n (suc count) answers opened (told, between, later, takes, runs, is) = still_open between n count later
    (stays_open m between told takes) runs

-- a change that is open, and of which no cell is left, may be closed
pub may_close : (m : Machine) → is_some m.keeper.pending ≡ true → ¬ (IsLawful m set_cell) → IsLawful m close_change
may_close m opened none = by m.keeper.pending refl opened
  where
    left : (pending : Pending) (cells : List Cell) → m.keeper.pending ≡ Some pending → pending.left ≡ cells → IsLawful m close_change
    left pending [] is e =
        let here : m.keeper.pending ≡ Some record { change = pending.change; left = [] } =
        is ∙ ap (λ (cells : List Cell). Some record { change = pending.change; left = cells }) e in
        (None, with_keeper m (closing m.keeper), (pending.change, here, refl))
    left pending (cell ∷ cells) is e =
        let here : m.keeper.pending ≡ Some record { change = pending.change; left = cell ∷ cells } =
        is ∙ ap (λ (cells : List Cell). Some record { change = pending.change; left = cells }) e in
        absurd (none (None, with_keeper m (setting m.keeper cell), (pending.change, cell, cells, here, refl)))

    by : (pending : Option Pending) → m.keeper.pending ≡ pending → is_some pending ≡ true → IsLawful m close_change
    by None is some = cc
    by (Some pending) is some = left pending pending.left is refl

-- a change that was tested may be opened, and is then open
pub may_open : (m : Machine) (change : Change) (count : ℕ) → IsTested m change (Ok count) → IsLawful m (open_change change)
may_open m change count (lawful, long) = lawful

-- it gives no answer
pub opens_silently : (old mid new : Machine) (change : Change) (told : Option Answer) → mid ≡ old →
    Takes mid (open_change change) told new → Takes old (open_change change) None new
opens_silently old mid new change None same takes = subst (λ (m : Machine). Takes m (open_change change) None new) same takes
opens_silently old mid new change (Some answer) same (s, which, answers) = absurd (cc which)

pub is_open : (m n : Machine) (change : Change) → Takes m (open_change change) None n → is_some n.keeper.pending ≡ true
is_open m n change (plan, rests, lean, encodes, is) = ap (λ (z : Machine). is_some z.keeper.pending) is

pub closed_after : (m mid n : Machine) (told : Option Answer) → AreSet m mid → Takes mid close_change told n →
    (count : ℕ) × Runs m (replicate count set_cell ++ close_change ∷ []) [] n
closed_after m mid n told (count, runs) takes = (count, run_snoc m (replicate count set_cell) [] mid close_change told n runs takes)
