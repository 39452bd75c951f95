-- The tally of the row while its cells are set.
use Rattle.std.proofs.Common.{None, ◌≡◌, ℕ, ◌+◌, ◌<◌, ◌≤◌, List, [], length, get_or, take, sym, ap, subst, arith}
use Rattle.std.specs.List.{All}
use Rattle.std.proofs.lemmas.List.Elements.{All-get_or}
use Rattle.std.specs.Prelude.{slice_set}
use Rattle.directory_tree.specs.declared.change.Change.{Change}
use Rattle.tree_row.specs.Slots.{slot_at, IsFree}
use Rattle.tree_row.specs.OpeningRow.{opening_row}
use Rattle.tree_row.specs.Questions.{FreeIn, IsFirstFree, NoneFreeBefore}
use Rattle.row_rule.specs.declared.cell.Cell.{Cell}
use Rattle.row_rule.specs.Row.{write}
use Rattle.row_rule.specs.laws.Writes.{length_write}
use Rattle.row_tally.specs.declared.note.Note.{Note}
use Rattle.row_tally.specs.Tally.{IsTallyOf}
use Rattle.dentry_cache.specs.Seats.{Mine, keeper_of}
use Rattle.dentry_cache.specs.Told.{first_view}
use Rattle.dentry_cache.specs.Models.{Held}
use Rattle.dentry_cache.specs.inner.Knowledge.{RowSeat, held, IsPlanned}
use Rattle.dentry_cache.proofs.SetCells.{set_next}

-- one more cell is set
pub follows_next : (capacity : ℕ) (row : List ℕ) (plan : List Cell) (i : ℕ) (other : Cell) (tally tally' : List Note) →
    i < length plan → All (λ (cell : Cell). cell.place < length row) plan →
    ((capacity : ℕ) (row : List ℕ) → (get_or plan i other).place < length row → IsTallyOf capacity row tally →
    IsTallyOf capacity (slice_set row (get_or plan i other).place (get_or plan i other).word) tally') →
    IsTallyOf capacity (write row (take i plan)) tally → IsTallyOf capacity (write row (take (i + 1) plan)) tally'
follows_next capacity row plan i other tally tally' there within follows before =
    let long = length_write row (take i plan) in
    let inside : (get_or plan i other).place < length row =
    All-get_or (λ (cell : Cell). cell.place < length row) plan i other there within in
    subst (λ (cells : List ℕ). IsTallyOf capacity cells tally') (sym (set_next row plan i other there))
    (follows capacity (write row (take i plan)) (omega (arith, long, inside)) before)

-- a change is made
pub tally_made : (seat seat' : RowSeat) (capacity : ℕ) (h : Held) (change : Change) (plan : List Cell) (tally tally' : List Note) →
    held seat capacity ≡ h → IsPlanned h change plan → (keeper_of seat'.me.0).cells ≡ write (keeper_of seat.me.0).cells plan →
    IsTallyOf capacity (keeper_of seat.me.0).cells tally →
    ((capacity : ℕ) (row : List ℕ) → All (λ (cell : Cell). cell.place < length row) plan → IsTallyOf capacity row tally →
    IsTallyOf capacity (write row plan) tally') →
    IsTallyOf capacity (keeper_of seat'.me.0).cells tally'
tally_made seat seat' capacity h change plan tally tally' is ((w, made, stands, plans), after) written before follows =
    let within : All (λ (cell : Cell). cell.place < length (keeper_of seat.me.0).cells) plan =
    subst (λ (x : Held). All (λ (cell : Cell). cell.place < length x.cells) plan) (sym is) plans.lean.within in
    subst (λ (cells : List ℕ). IsTallyOf capacity cells tally') (sym written)
    (follows capacity (keeper_of seat.me.0).cells within before)

-- of the first row
pub tally_first : (me : Mine) (capacity : ℕ) (tally : List Note) → me ≡ (first_view capacity, []) →
    IsTallyOf capacity (opening_row capacity) tally → IsTallyOf capacity (keeper_of me.0).cells tally
tally_first me capacity tally first is =
    subst (λ (cells : List ℕ). IsTallyOf capacity cells tally) (sym (ap (λ (m : Mine). (keeper_of m.0).cells) first)) is

-- no slot is free before the first one that is, nor before the end, if none is
module _ (seat : RowSeat) (capacity : ℕ) (h : Held) (is : held seat capacity ≡ h) where
  none_before : (slot : ℕ) → ((r : ℕ) → IsFree (capacity + 1) (slot_at (keeper_of seat.me.0).cells) r → slot ≤ r) →
      NoneFreeBefore h.capacity (λ (row : List ℕ). row ≡ h.cells) slot
  none_before slot low =
      subst (λ (x : Held). NoneFreeBefore x.capacity (λ (row : List ℕ). row ≡ x.cells) slot) is
      (λ row same r free. low r (subst (λ (cells : List ℕ). IsFree (capacity + 1) (slot_at cells) r) same free))

  pub none_before_first : (slot : ℕ) → IsFirstFree (capacity + 1) (slot_at (keeper_of seat.me.0).cells) slot →
      NoneFreeBefore h.capacity (λ (row : List ℕ). row ≡ h.cells) slot
  none_before_first slot first = none_before slot first.first

  pub none_at_all : FreeIn (capacity + 1) (slot_at (keeper_of seat.me.0).cells) None →
      NoneFreeBefore h.capacity (λ (row : List ℕ). row ≡ h.cells) (capacity + 1)
  none_at_all none = none_before (capacity + 1) (λ r free. absurd (none r free))
