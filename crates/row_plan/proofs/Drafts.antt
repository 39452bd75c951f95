-- A plan with one more cell.
use Rattle.std.proofs.Common.{◌≡◌, ℕ, zero, suc, ◌<◌, ◌≢◌, List, [], ◌∷◌, ◌++◌, length, set, sym, refl, ap, ◌∙◌, arith, length-set}
use Rattle.std.proofs.Common.{get_or-set_other, get_or-set_same}
use Rattle.std.specs.Prelude.{slice_index, slice_index_or, slice_set}
use Rattle.std.specs.List.{All, AllPairs}
use Rattle.std.proofs.lemmas.List.{set-get_or}
use Rattle.std.proofs.lemmas.List.Elements.{All-append}
use Rattle.std.proofs.lemmas.List.Quantifiers.{all_pairs_push}
use Rattle.row_rule.specs.declared.cell.Cell.{Cell}
use Rattle.row_rule.specs.Row.{write}
use Rattle.row_rule.specs.laws.Writes.{write_append}
use Rattle.row_plan.specs.inner.Rows.{Drafts}

-- a word that is set stays in the row: no plan makes a change there
pub stays : (row : List ℕ) (plan : List Cell) (after : List ℕ) (place word : ℕ) → place < length row → Drafts row plan after →
    slice_index after place ≡ slice_index row place → slice_index row place ≡ word
    → Drafts row plan (slice_set after place word)
stays row plan after place word within draft same is =
    let e : slice_set after place word ≡ after = ap (set after place) (sym (same ∙ is)) ∙ set-get_or after place 0 in
    record { gives = draft.gives ∙ sym e; lean = draft.lean }

-- a place that no cell has keeps its word
pub after_all : (row : List ℕ) (plan : List Cell) (k : ℕ) → All (λ (cell : Cell). cell.place ≢ k) plan → slice_index (write row plan) k
    ≡ slice_index row k
after_all row [] k others = refl
after_all row (x ∷ xs) k others =
    after_all (slice_set row x.place x.word) xs k (λ i d l. others (suc i) d (omega arith)) ∙ get_or-set_other row x.place k x.word 0
    (λ e. others 0 x (omega arith) (sym e))

-- what a cell sets is there afterwards
pub set_by : (row : List ℕ) (plan : List Cell) → All (λ (cell : Cell). cell.place < length row) plan →
    AllPairs (λ (cell later : Cell). cell.place ≢ later.place) plan
    → (i : ℕ) (d : Cell) → i < length plan → slice_index (write row plan) (slice_index_or plan i d).place ≡ (slice_index_or plan i d).word
set_by row [] within once i d l = absurd (omega arith)
set_by row (x ∷ xs) within once zero d l =
    after_all (slice_set row x.place x.word) xs x.place (λ j e m. λ same. once 0 (suc j) e (omega arith) (omega arith) (sym same))
    ∙ get_or-set_same row x.place x.word 0 (within 0 d l)
set_by row (x ∷ xs) within once (suc i) d l =
    set_by (slice_set row x.place x.word) xs (λ j e m. let n = length-set row x.place x.word in let w = within (suc j) e (omega arith) in
    omega arith)
    (λ j k e m o. once (suc j) (suc k) e (omega arith) (omega arith)) i d (omega arith)

-- one more cell, with a word that differs from the one there
pub grows : (row : List ℕ) (plan : List Cell) (after : List ℕ) (place word : ℕ) → place < length row → Drafts row plan after →
    slice_index after place ≡ slice_index row place → slice_index row place ≢ word
    → Drafts row (plan ++ record { place = place; word = word } ∷ []) (slice_set after place word)
grows row plan after place word within draft same other =
    let cell : Cell = record { place = place; word = word } in
    let lean = draft.lean in
    record {
      gives = write_append row plan (cell ∷ []) ∙ ap (λ (z : List ℕ). slice_set z place word) draft.gives;
      lean = record {
        within = All-append (λ (z : Cell). z.place < length row) plan (cell ∷ []) lean.within
            (λ k d l. one (λ (z : Cell). z.place < length row) cell within k d l);
        once = all_pairs_push (λ (z later : Cell). z.place ≢ later.place) plan cell lean.once (λ k d l e. lean.changes k d l
            (ap (slice_index row) e ∙ sym same ∙ ap (λ (z : List ℕ). slice_index z place) (sym draft.gives)
            ∙ ap (slice_index (write row plan)) (sym e) ∙ set_by row plan lean.within lean.once k d l));
        changes = All-append (λ (z : Cell). slice_index row z.place ≢ z.word) plan (cell ∷ []) lean.changes
            (λ k d l. one (λ (z : Cell). slice_index row z.place ≢ z.word) cell other k d l);
      };
    }
  where
    one : (P : Cell → Type 0) (cell : Cell) → P cell → (k : ℕ) (d : Cell) → k < length (cell ∷ []) → P (slice_index_or (cell ∷ []) k d)
    one P cell h zero d l = h
    one P cell h (suc k) d l = absurd (omega arith)

-- nothing is planned yet
pub begins : (row : List ℕ) → Drafts row [] row
begins row = record {
  gives = refl;
  lean = record {
    within = λ k d l. absurd (omega arith);
    once = λ i j d l m. absurd (omega arith);
    changes = λ k d l. absurd (omega arith);
  };
}
