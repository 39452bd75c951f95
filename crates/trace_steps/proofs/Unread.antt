-- Walks end: each cell that a walk reads is one that it had not read before, except the first, of which nothing is known.
use Rattle.std.proofs.Common.{◌≡◌, ◌≢◌, ℕ, zero, suc, ◌+◌, ◌<◌, ◌≤◌, ◌==◌, ◌||◌, Bool, true, false, List, [], ◌∷◌, Option, Some, None}
use Rattle.std.proofs.Common.{refl, sym, ap, ◌∙◌, subst, arith, ne_eqb, eqb-true}
use Rattle.std.specs.Prelude.{if◌then◌else◌}
use Rattle.std.specs.List.{All, list_any}
use Rattle.std.proofs.lemmas.Bool.{eqb-false}
use Rattle.std.proofs.lemmas.List.Elements.{All-head, All-tail}
use Rattle.justification.specs.declared.answer.Answer.{Answer}
use Rattle.row_rule.specs.declared.cell.Cell.{Cell}
use Rattle.row_rule.specs.declared.view.WalkerView.{WalkerView}
use Rattle.row_rule.specs.Steps.{reading}
use Rattle.tree_row.specs.Rows.{row_length}
use Rattle.event_machine.specs.Machine.{Policed, Machine}
use Rattle.event_machine.specs.Machine.Event.{read_cell}
use Rattle.event_machine.specs.Machine.Stage.{walking}
use Rattle.event_machine.specs.WalkSteps.{MayDo, MayRead}
use Rattle.event_machine.specs.Takes.{Takes}
use Rattle.event_machine.specs.Runs.{Runs}
use Rattle.event_machine.specs.Lawful.{cell_reads}
use Rattle.trace_steps.specs.inner.Actions.{unread, unread_in, cells_unread}
use Rattle.trace_steps.proofs.Stages.{stage_of, stage_moved}

abbrev is_read : ℕ → List Cell → Bool
is_read n reads = list_any (λ (read : Cell). read.place == n) reads

abbrev one_if : Bool → ℕ
one_if read = if read then 0 else 1

one_fewer : (here read : Bool) → one_if (here || read) ≤ one_if read
one_fewer true true = omega arith
one_fewer true false = omega arith
one_fewer false true = omega arith
one_fewer false false = omega arith

no_more_unread : (n : ℕ) (cell : Cell) (reads : List Cell) → unread n (cell ∷ reads) ≤ unread n reads
no_more_unread zero cell reads = omega arith
no_more_unread (suc n) cell reads = omega (arith, no_more_unread n cell reads, one_fewer (cell.place == n) (is_read n reads))

not_read : (n : ℕ) (reads : List Cell) → All (λ (read : Cell). read.place ≢ n) reads → is_read n reads ≡ false
not_read n [] other = refl
not_read n (read ∷ reads) other =
    ap (λ (here : Bool). here || is_read n reads) (ne_eqb read.place n (All-head (λ (read : Cell). read.place ≢ n) read reads other))
    ∙ not_read n reads (All-tail (λ (read : Cell). read.place ≢ n) read reads other)

fewer_unread : (n : ℕ) (cell : Cell) (reads : List Cell) → cell.place < n → All (λ (read : Cell). read.place ≢ cell.place) reads →
    unread n (cell ∷ reads) + 1 ≤ unread n reads
fewer_unread zero cell reads within other = absurd (omega arith)
fewer_unread (suc n) cell reads within other = by (cell.place == n) refl (λ below. fewer_unread n cell reads below other)
  where
    by : (here : Bool) → (cell.place == n) ≡ here → (cell.place < n → unread n (cell ∷ reads) + 1 ≤ unread n reads)
        → (unread n (cell ∷ reads) + one_if (here || is_read n reads)) + 1 ≤ unread n reads + one_if (is_read n reads)
    by true e fewer =
        let none : is_read n reads ≡ false = subst (λ (k : ℕ). is_read k reads ≡ false) (eqb-true cell.place n e)
        (not_read cell.place reads other) in
        let whole : one_if (is_read n reads) ≡ 1 = ap one_if none in
        omega (arith, no_more_unread n cell reads, whole)
    by false e fewer = omega (arith, fewer (omega (arith, eqb-false cell.place n e)))

-- what a walk may do next
abbrev IsAbout : ℕ → Machine → Type 0
IsAbout s m = (p : Policed) × (w : WalkerView) × (next : Option ℕ) × (stage_of s m ≡ walking p w next) × MayDo m.capacity p.call w next

-- after a cell was read
after_reading : (s : ℕ) (m n : Machine) (told : Option Answer) → Takes m (read_cell s) told n →
    IsAbout s n × (cells_unread n s ≤ cells_unread m s) × (IsAbout s m → cells_unread n s + 1 ≤ cells_unread m s)
after_reading s m n (Some told) (own, is, answers) = cc
after_reading s m n None (p, w, place, word, next, stands, holds, may, is) =
    let cell : Cell = record { place = place; word = word } in
    let w' = reading w cell in
    let there : stage_of s n ≡ walking p w' next = ap (stage_of s) is ∙ stage_moved m s (walking p w' next) in
    let room : n.capacity ≡ m.capacity = ap (λ (z : Machine). z.capacity) is in
    let before : cells_unread m s ≡ unread (row_length m.capacity) w.reads = ap (unread_in (row_length m.capacity)) stands in
    let after : cells_unread n s ≡ unread (row_length m.capacity) (cell ∷ w.reads) =
    ap (λ (k : ℕ). unread_in (row_length k) (stage_of s n)) room ∙ ap (unread_in (row_length m.capacity)) there in
    let fewer : IsAbout s m → unread (row_length m.capacity) (cell ∷ w.reads) + 1 ≤ unread (row_length m.capacity) w.reads = λ about.
    let may_read = about_place p w place about stands in
    fewer_unread (row_length m.capacity) cell w.reads may_read.2 may_read.3 in (
      (p, w', next, there, subst (λ (k : ℕ). MayDo k p.call w' next) (sym room) may),
      rw (before, after) (no_more_unread (row_length m.capacity) cell w.reads),
      λ about. rw (before, after) (fewer about),
    )
  where
    about_place : (p : Policed) (w : WalkerView) (place : ℕ) → IsAbout s m → stage_of s m ≡ walking p w (Some place) →
        MayRead m.capacity p.call w place
    about_place p w place (q, v, next, stands, may) is =
        let same : walking q v next ≡ walking p w (Some place) = sym stands ∙ is in
        let calls : q ≡ p = cc in
        let views : v ≡ w = cc in
        let places : next ≡ Some place = cc in
        let P : Policed → WalkerView → Option ℕ → Type 0 = λ q v next. MayDo m.capacity q.call v next in
        subst (λ (q : Policed). P q w (Some place)) calls (subst (λ (v : WalkerView). P q v (Some place)) views (subst (P q v) places may))

-- each cell that is read from there on leaves one less
reads_fall : (s count : ℕ) (m n : Machine) (answers : List (ℕ × Answer)) → IsAbout s m → Runs m (cell_reads s count) answers n →
    cells_unread n s + count ≤ cells_unread m s
reads_fall s zero m n answers about (none, same) = rw same (omega arith)
reads_fall s (suc count) m n answers about (told, between, later, takes, runs, is) =
    let (next, few, fewer) = after_reading s m between told takes in
    omega (arith, reads_fall s count between n later next runs, fewer about)

-- at least two readings leave fewer cells
pub walks_fall : (s count : ℕ) (m n : Machine) (answers : List (ℕ × Answer)) → 2 ≤ count → Runs m (cell_reads s count) answers n →
    cells_unread n s < cells_unread m s
walks_fall s zero m n answers two runs = absurd (omega arith)
walks_fall s (suc count) m n answers two (told, between, later, takes, runs, is) =
    let (next, few, fewer) = after_reading s m between told takes in
    omega (arith, reads_fall s count between n later next runs, few)
