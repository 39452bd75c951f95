-- A plan with one cell less.
use Rattle.std.proofs.Common.{◌≡◌, ℕ, zero, suc, ◌<◌, ◌≢◌, List, [], ◌∷◌, length, set, sym, refl, ap, ◌∙◌, arith}
use Rattle.std.proofs.Common.{length-set, get_or-set_other}
use Rattle.std.specs.Prelude.{slice_index, slice_index_or, slice_set}
use Rattle.std.specs.List.{All, AllPairs, remove}
use Rattle.std.proofs.lemmas.List.{set-get_or}
use Rattle.std.proofs.lemmas.List.Quantifiers.{all_pairs_remove}
use Rattle.row_rule.specs.declared.cell.Cell.{Cell}
use Rattle.row_rule.specs.Row.{write}
use Rattle.row_plan.specs.inner.Rows.{Drafts}
use Rattle.row_plan.proofs.Drafts.{after_all, set_by}

set_set : (xs : List ℕ) (i a b : ℕ) → set (set xs i a) i b ≡ set xs i b
set_set [] i a b = refl
set_set (x ∷ xs) zero a b = refl
set_set (x ∷ xs) (suc i) a b = ap (λ (z : List ℕ). x ∷ z) (set_set xs i a b)

set_apart : (xs : List ℕ) (i j a b : ℕ) → i ≢ j → set (set xs i a) j b ≡ set (set xs j b) i a
set_apart [] i j a b other = refl
set_apart (x ∷ xs) zero zero a b other = absurd (other refl)
set_apart (x ∷ xs) zero (suc j) a b other = refl
set_apart (x ∷ xs) (suc i) zero a b other = refl
set_apart (x ∷ xs) (suc i) (suc j) a b other = ap (λ (z : List ℕ). x ∷ z) (set_apart xs i j a b (λ e. other (ap suc e)))

write_apart : (row : List ℕ) (plan : List Cell) (p v : ℕ) → All (λ (cell : Cell). cell.place ≢ p) plan
    → write (set row p v) plan ≡ set (write row plan) p v
write_apart row [] p v others = refl
write_apart row (x ∷ xs) p v others =
    ap (λ (z : List ℕ). write z xs) (set_apart row p x.place v x.word (λ e. others 0 x (omega arith) (sym e)))
    ∙ write_apart (set row x.place x.word) xs p v (λ i d l. others (suc i) d (omega arith))

dropped : (row : List ℕ) (plan : List Cell) → AllPairs (λ (cell later : Cell). cell.place ≢ later.place) plan → (i : ℕ) (d : Cell)
    → i < length plan → write row (remove plan i)
    ≡ slice_set (write row plan) (slice_index_or plan i d).place (slice_index row (slice_index_or plan i d).place)
dropped row [] once i d l = absurd (omega arith)
dropped row (x ∷ xs) once zero d l =
    let others : All (λ (cell : Cell). cell.place ≢ x.place) xs =
    λ j e m. λ same. once 0 (suc j) e (omega arith) (omega arith) (sym same)
    in
    sym (ap (λ (z : List ℕ). set z x.place (slice_index row x.place)) (write_apart row xs x.place x.word others)
    ∙ set_set (write row xs) x.place x.word (slice_index row x.place)
    ∙ ap (set (write row xs) x.place) (sym (after_all row xs x.place others))
    ∙ set-get_or (write row xs) x.place 0)
dropped row (x ∷ xs) once (suc i) d l =
    let q = (slice_index_or xs i d).place in
    dropped (set row x.place x.word) xs (λ j k e m o. once (suc j) (suc k) e (omega arith) (omega arith)) i d (omega arith)
    ∙ ap (set (write (set row x.place x.word) xs) q)
    (get_or-set_other row x.place q x.word 0 (λ e. once 0 (suc i) d (omega arith) (omega arith) (sym e)))

with_first : (P : Cell → Type 0) (x : Cell) (xs : List Cell) → P x → All P xs → All P (x ∷ xs)
with_first P x xs h all zero d l = h
with_first P x xs h all (suc k) d l = all k d (omega arith)

all_remove : (P : Cell → Type 0) (plan : List Cell) (i : ℕ) → All P plan → All P (remove plan i)
all_remove P [] zero all = all
all_remove P [] (suc i) all = all
all_remove P (x ∷ xs) zero all = λ k d l. all (suc k) d (omega arith)
all_remove P (x ∷ xs) (suc i) all =
    with_first P x (remove xs i) (all 0 x (omega arith)) (all_remove P xs i (λ j e m. all (suc j) e (omega arith)))

pub drops : (row : List ℕ) (plan : List Cell) (after : List ℕ) (place i : ℕ) (d : Cell) → i < length plan
    → (slice_index_or plan i d).place ≡ place → Drafts row plan after
    → Drafts row (remove plan i) (slice_set after place (slice_index row place))
drops row plan after place i d l at draft =
    let lean = draft.lean in
    let cell = slice_index_or plan i d in
    record {
      gives = dropped row plan lean.once i d l
          ∙ ap (λ (z : List ℕ). set z cell.place (slice_index row cell.place)) draft.gives
          ∙ ap (λ (z : ℕ). set after z (slice_index row z)) at;
      lean = record {
        within = all_remove (λ (z : Cell). z.place < length row) plan i lean.within;
        once = all_pairs_remove (λ (z later : Cell). z.place ≢ later.place) plan i l lean.once;
        changes = all_remove (λ (z : Cell). slice_index row z.place ≢ z.word) plan i lean.changes;
      };
    }

-- the word at a place once the plan is set: that of the place's cell, or the row's
pub planned_at : (row : List ℕ) (plan : List Cell) (after : List ℕ) (place i : ℕ) (d : Cell) → i < length plan
    → (slice_index_or plan i d).place ≡ place → Drafts row plan after → slice_index after place ≡ (slice_index_or plan i d).word
planned_at row plan after place i d l at draft =
    ap (slice_index after) (sym at) ∙ ap (λ (z : List ℕ). slice_index z (slice_index_or plan i d).place) (sym draft.gives)
    ∙ set_by row plan draft.lean.within draft.lean.once i d l

pub unplanned_at : (row : List ℕ) (plan : List Cell) (after : List ℕ) (place : ℕ) → All (λ (cell : Cell). cell.place ≢ place) plan
    → Drafts row plan after → slice_index after place ≡ slice_index row place
unplanned_at row plan after place others draft =
    ap (λ (z : List ℕ). slice_index z place) (sym draft.gives) ∙ after_all row plan place others

-- a place that no cell has keeps its word
pub drops_none : (row : List ℕ) (plan : List Cell) (after : List ℕ) (place : ℕ) → All (λ (cell : Cell). cell.place ≢ place) plan
    → Drafts row plan after → Drafts row plan (slice_set after place (slice_index row place))
drops_none row plan after place others draft =
    let e : slice_set after place (slice_index row place) ≡ after =
    ap (set after place) (sym (unplanned_at row plan after place others draft)) ∙ set-get_or after place 0
    in
    record { gives = draft.gives ∙ sym e; lean = draft.lean }

-- setting a word where another was set before
pub set_again : (after : List ℕ) (place one other : ℕ) → slice_set (slice_set after place one) place other ≡ slice_set after place other
set_again after place one other = set_set after place one other

pub length_drafted : (row : List ℕ) (plan : List Cell) (after : List ℕ) → Drafts row plan after → length after ≡ length row
length_drafted row plan after draft = sym (ap (λ (z : List ℕ). length z) draft.gives) ∙ length_written row plan
  where
    length_written : (cells : List ℕ) (plan : List Cell) → length (write cells plan) ≡ length cells
    length_written cells [] = refl
    length_written cells (c ∷ cs) = length_written (set cells c.place c.word) cs ∙ length-set cells c.place c.word
