-- Words that one walk reads, as steps of the machine: each is chosen, and then read.
use Rattle.std.proofs.Common.{◌≡◌, ℕ, zero, suc, ◌%◌, ◌<◌, List, [], ◌∷◌, ◌++◌, length, Option, Some, refl, subst}
use Rattle.std.specs.Prelude.{slice_get}
use Rattle.std.proofs.lemmas.Option.{slice_get_within}
use Rattle.row_rule.specs.declared.cell.Cell.{Cell}
use Rattle.row_rule.specs.declared.view.WalkerView.{WalkerView}
use Rattle.row_rule.specs.Steps.{reading}
use Rattle.tree_row.specs.Rows.{row_length}
use Rattle.event_machine.specs.Machine.{Policed, Session}
use Rattle.event_machine.specs.Machine.Stage.{walking}
use Rattle.event_machine.specs.WalkSteps.{IsSound, MayDo}
use Rattle.open_session.specs.Words.{ReadsOn}
use Rattle.open_session.specs.Steps.{ReadsCell, CellReads}

-- one more reading at the end
one_more : (capacity : ℕ) (cells : List ℕ) (count : ℕ) (a b c : Session) → CellReads capacity cells count a b →
    ReadsCell capacity cells b c → CellReads capacity cells (suc count) a c
one_more capacity cells zero a b c is step = (c, subst (λ (s : Session). ReadsCell capacity cells s c) is step, refl)
one_more capacity cells (suc count) a b c (between, first, rest) step =
    (between, first, one_more capacity cells count between b c rest step)

abbrev pub with_reads : WalkerView → List Cell → WalkerView
with_reads w reads = record { seen = w.seen; count_reads = w.count_reads; noted = w.noted; last = w.last; reads = reads }

abbrev pub standing : List ℕ → Policed → WalkerView → Option ℕ → Session
standing name p w next = record { name = name; stage = walking p w next }

-- A walk that has chosen a place reads the word there, and then, choosing each in turn, these words.
pub reads_on : (capacity : ℕ) (cells name : List ℕ) (p : Policed) (w : WalkerView) (place word : ℕ) (more : List Cell) (next : Option ℕ)
    → length cells ≡ row_length capacity → w.noted % 2 ≡ 0 → IsSound p.call → slice_get cells place ≡ Some word
    → ReadsOn cells more (record { place = place; word = word } ∷ w.reads)
    → MayDo capacity p.call (with_reads w (more ++ record { place = place; word = word } ∷ w.reads)) next
    → CellReads capacity cells (suc (length more)) (standing name p w (Some place))
    (standing name p (with_reads w (more ++ record { place = place; word = word } ∷ w.reads)) next)
reads_on capacity cells name p w place word [] next long even sound stands on may =
    (standing name p (reading w record { place = place; word = word }) next, (p, w, place, word, next, refl, stands, may, refl), refl)
reads_on capacity cells name p w place word (read ∷ more) next long even sound stands on may =
    let known : List Cell = record { place = place; word = word } ∷ w.reads in
    let before : WalkerView = with_reads w (more ++ known) in
    let within : read.place < row_length capacity = subst (λ (n : ℕ). read.place < n) long
    (slice_get_within cells read.place read.word on.0) in
    one_more capacity cells (suc (length more)) (standing name p w (Some place)) (standing name p before (Some read.place)) _
    (reads_on capacity cells name p w place word more (Some read.place) long even sound stands on.2 (even, sound, within, on.1))
    (p, before, read.place, read.word, next, refl, on.0, may, refl)
