-- One more cell of a plan is set.
use Rattle.std.proofs.Common.{◌≡◌, ℕ, ◌+◌, ◌<◌, min, Bool, true, false, refl, List, ◌∷◌, length, get_or, drop, Some, sym, ap, ◌∙◌, arith}
use Rattle.std.proofs.Common.{add-one, drop-cons, take, []}
use Rattle.std.proofs.lemmas.List.{drop_all, take_all}
use Rattle.std.proofs.Math.Seq.{take-suc}
use Rattle.row_rule.specs.laws.Writes.{write_append}
use Rattle.std.proofs.lemmas.Bool.{ltb-true, ltb-false}
use Rattle.std.specs.Prelude.{nat_lt, slice_set}
use Rattle.directory_tree.specs.declared.change.Change.{Change}
use Rattle.row_rule.specs.declared.cell.Cell.{Cell}
use Rattle.row_rule.specs.declared.view.Pending.{Pending}
use Rattle.row_rule.specs.declared.view.KeeperView.{KeeperView}
use Rattle.row_rule.specs.Row.{write}
use Rattle.row_rule.specs.Steps.{setting, one_fewer}
use Rattle.dentry_cache.specs.Seats.{keeper_of}
use Rattle.dentry_cache.specs.Models.{Held, IsStopped}
use Rattle.dentry_cache.specs.inner.Knowledge.{RowSeat, held, stopped_at, IsPlanned}

-- the cells that are left begin with the next one
pub next_left : (plan : List Cell) (i : ℕ) (other : Cell) → i < length plan → drop i plan ≡ get_or plan i other ∷ drop (i + 1) plan
next_left plan i other within = drop-cons plan i other within ∙ ap (λ (n : ℕ). get_or plan i other ∷ drop n plan) (sym (add-one i))

pub pending_next : (change : Change) (plan : List Cell) (i : ℕ) (other : Cell) → i < length plan
    → ◌≡◌ {A = Pending} record { change = change; left = drop i plan } record {
      change = change;
      left =
          get_or plan i other ∷ drop (i + 1) plan;
    }
pending_next change plan i other within = ap (λ (cells : List Cell). let p : Pending = record { change = change; left = cells } in p)
    (next_left plan i other within)

-- one more cell is set
pub set_next : (cells : List ℕ) (plan : List Cell) (i : ℕ) (other : Cell) → i < length plan
    → write cells (take (i + 1) plan) ≡ slice_set (write cells (take i plan)) (get_or plan i other).place (get_or plan i other).word
set_next cells plan i other within =
    ap (λ (n : ℕ). write cells (take n plan)) (add-one i) ∙ (ap (write cells) (take-suc plan i other within) ∙ write_append cells
    (take i plan) (get_or plan i other ∷ []))

-- the invariant of a loop that sets cells: the first `i` are set, and the others are left
pub one_more_set : (k k' begun : KeeperView) (change : Change) (plan : List Cell) (i : ℕ) (other : Cell) → i < length plan →
    k' ≡ setting k (get_or plan i other)
    → k.history ≡ begun.history → k.pending ≡ Some record { change = change; left = drop i plan } →
    k.cells ≡ write begun.cells (take i plan) → (k'.history ≡ begun.history)
    × (k'.pending ≡ Some record { change = change; left = drop (i + 1) plan }) × (k'.cells ≡ write begun.cells (take (i + 1) plan))
one_more_set k k' begun change plan i other within is history pending cells =
    let cell : Cell = get_or plan i other in (
      ap (λ (z : KeeperView). z.history) is ∙ history,
      ap (λ (z : KeeperView). z.pending) is
          ∙ ap one_fewer (pending ∙ ap (λ (p : Pending). Some p) (pending_next change plan i other within)),
      ap (λ (z : KeeperView). z.cells) is ∙ (ap (λ (cs : List ℕ). slice_set cs cell.place cell.word) cells
          ∙ sym (set_next begun.cells plan i other within)),
    )

-- the first `most` cells, or all if there are fewer
first_ones : (plan : List Cell) (most set : ℕ) → set ≡ min most (length plan) → (drop set plan ≡ drop most plan)
    × (take set plan ≡ take most plan)
first_ones plan most set is = elim (nat_lt most (length plan)) as (λ (b : Bool). nat_lt most (length plan) ≡ b →
    (drop set plan ≡ drop most plan) × (take set plan ≡ take most plan)) [
      | true ↦ λ q. let few = ltb-true most (length plan) q in
          (ap (λ (n : ℕ). drop n plan) (omega (arith, is, few)), ap (λ (n : ℕ). take n plan) (omega (arith, is, few)))
      | false ↦ λ q. let many = ltb-false most (length plan) q in (
        drop_all set plan (omega (arith, is, many)) ∙ sym (drop_all most plan (omega (arith, many))),
        take_all set plan (omega (arith, is, many)) ∙ sym (take_all most plan (omega (arith, many))),
      )
    ] refl

pub stopped : (seat seat' : RowSeat) (capacity : ℕ) (h : Held) (change : Change) (plan : List Cell) (most set : ℕ) → held seat capacity
    ≡ h → IsPlanned h change plan → set ≡ min most (length plan)
    → seat'.table_id ≡ seat.table_id → (keeper_of seat'.me.0).history ≡ (keeper_of seat.me.0).history → (keeper_of seat'.me.0).pending
    ≡ Some record { change = change; left = drop set plan } → (keeper_of seat'.me.0).cells ≡ write (keeper_of seat.me.0).cells
    (take set plan) → IsStopped h change most (stopped_at seat' capacity)
stopped seat seat' capacity h change plan most set is planned first table history pending written =
    let (left, done) = first_ones plan most set first in
    record {
      table = table ∙ ap (λ (x : Held). x.table) is;
      capacity = ap (λ (x : Held). x.capacity) is;
      history = history ∙ ap (λ (x : Held). x.history) is;
      plan = plan;
      planned = planned.0;
      opened = pending ∙ ap (λ (cs : List Cell). Some record { change = change; left = cs }) left;
      cells = written ∙ (λ i. write ((is i).cells) (done i));
      encodes = planned.1;
    }
