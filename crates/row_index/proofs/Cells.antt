-- Insertions and removals keep the cells outside of an index, and the number of all cells.
use Rattle.std.proofs.Common.{◌≡◌, ℕ, zero, suc, ◌+◌, ◌-◌, ◌<◌, ◌≤◌, ◌==◌, Bool, true, false, List, length, get_or}
use Rattle.std.proofs.Common.{refl, ap, ◌∙◌, arith, length-set, get_or-set_other}
use Rattle.std.specs.Prelude.{if◌then◌else◌}
use mathlib.Core.Logic.{◌⊎◌, inl, inr}
use Rattle.row_index.specs.Places.{around}
use Rattle.row_index.specs.Edits.{index_at, with_word, swept, freed, passes, vacated, Inserts, Removes}
use Rattle.row_index.specs.laws.Rounds.{around_within}

-- cells before the index and after it
abbrev pub IsOutside : ℕ → ℕ → ℕ → Type 0
IsOutside base size k = (k < base) ⊎ (base + size ≤ k)

set_outside : (base size p x : ℕ) (row : List ℕ) (k : ℕ) → p < size → IsOutside base size k
    → get_or (with_word row base p x) k 0 ≡ get_or row k 0
set_outside base size p x row k within out = elim out [
  | inl l ↦ get_or-set_other row (base + p) k x 0 (λ e. absurd (omega arith))
  | inr g ↦ get_or-set_other row (base + p) k x 0 (λ e. absurd (omega arith))
]

swept_outside : (base size p most : ℕ) (row : List ℕ) (k : ℕ) → p < size → IsOutside base size k
    → get_or (swept base size row p most) k 0 ≡ get_or row k 0
unfolding swept
swept_outside base size p zero row k within out = refl
swept_outside base size p (suc most) row k within out =
    elim (index_at row base p == 1) as (λ (b : Bool).
    get_or (if b then swept base size (with_word row base p 0) (around size (p + (size - 1))) most else row) k 0 ≡ get_or row k 0) [
      | true ↦
          let before = around_within size (p + (size - 1)) (omega arith) in
          swept_outside base size (around size (p + (size - 1))) most (with_word row base p 0) k before out
          ∙ set_outside base size p 0 row k within out
      | false ↦ refl
    ]

vacated_outside : (base size : ℕ) (home : ℕ → ℕ) (p q most : ℕ) (row : List ℕ) (k : ℕ) → p < size → q < size → IsOutside base size k
    → get_or (vacated base size home row p q most) k 0 ≡ get_or row k 0
unfolding vacated
vacated_outside base size home p q zero row k here there out = set_outside base size p 1 row k here out
vacated_outside base size home p q (suc most) row k here there out =
    let next = around_within size (q + 1) (omega arith) in
    elim (index_at row base q == 0) as (λ (b : Bool).
    get_or (if b then freed base size row p
    else if passes size home (index_at row base q) p q
    then vacated base size home (with_word row base p (index_at row base q)) q (around size (q + 1)) most
    else vacated base size home row p (around size (q + 1)) most) k 0 ≡ get_or row k 0) [
      | true ↦
          let before = around_within size (p + (size - 1)) (omega arith) in
          swept_outside base size (around size (p + (size - 1))) size (with_word row base p 0) k before out
          ∙ set_outside base size p 0 row k here out
      | false ↦ elim (passes size home (index_at row base q) p q) as (λ (b : Bool).
          get_or (if b then vacated base size home (with_word row base p (index_at row base q)) q (around size (q + 1)) most
          else vacated base size home row p (around size (q + 1)) most) k 0 ≡ get_or row k 0) [
            | true ↦
                vacated_outside base size home q (around size (q + 1)) most (with_word row base p (index_at row base q)) k there next out
                ∙ set_outside base size p (index_at row base q) row k here out
            | false ↦ vacated_outside base size home p (around size (q + 1)) most row k here next out
          ]
    ]

removes_outside : (base size : ℕ) (home : ℕ → ℕ) (s : ℕ) (row after : List ℕ) → Removes base size home s row after
    → (k : ℕ) → IsOutside base size k → get_or after k 0 ≡ get_or row k 0
removes_outside base size home s row after gone k out =
    let within = gone.1 in
    let next = around_within size (gone.0 + 1) (omega arith) in
    ap (λ (z : List ℕ). get_or z k 0) gone.3
    ∙ vacated_outside base size home gone.0 (around size (gone.0 + 1)) (size - 1) row k within next out

pub removes_before : (base size : ℕ) (home : ℕ → ℕ) (s : ℕ) (row after : List ℕ) → Removes base size home s row after
    → (k : ℕ) → k < base → get_or after k 0 ≡ get_or row k 0
removes_before base size home s row after gone k l = removes_outside base size home s row after gone k (inl l)

pub removes_after : (base size : ℕ) (home : ℕ → ℕ) (s : ℕ) (row after : List ℕ) → Removes base size home s row after
    → (k : ℕ) → base + size ≤ k → get_or after k 0 ≡ get_or row k 0
removes_after base size home s row after gone k g = removes_outside base size home s row after gone k (inr g)

pub inserts_before : (base size home s : ℕ) (row after : List ℕ) → Inserts base size home s row after
    → (k : ℕ) → k < base → get_or after k 0 ≡ get_or row k 0
inserts_before base size home s row after put k l =
    ap (λ (z : List ℕ). get_or z k 0) put.2
    ∙ get_or-set_other row (base + around size (home + put.0)) k (s + 1) 0 (λ e. absurd (omega arith))

pub inserts_after : (base size home s : ℕ) (row after : List ℕ) → home < size → Inserts base size home s row after
    → (k : ℕ) → base + size ≤ k → get_or after k 0 ≡ get_or row k 0
inserts_after base size home s row after low put k g =
    let near = put.1.within in
    ap (λ (z : List ℕ). get_or z k 0) put.2
    ∙ set_outside base size (around size (home + put.0)) (s + 1) row k (around_within size (home + put.0) (omega arith)) (inr g)

-- the length
length_swept : (base size p most : ℕ) (row : List ℕ) → length (swept base size row p most) ≡ length row
unfolding swept
length_swept base size p zero row = refl
length_swept base size p (suc most) row =
    elim (index_at row base p == 1) as (λ (b : Bool).
    length (if b then swept base size (with_word row base p 0) (around size (p + (size - 1))) most else row) ≡ length row) [
      | true ↦ length_swept base size (around size (p + (size - 1))) most (with_word row base p 0) ∙ length-set row (base + p) 0
      | false ↦ refl
    ]

length_vacated : (base size : ℕ) (home : ℕ → ℕ) (p q most : ℕ) (row : List ℕ) → length (vacated base size home row p q most) ≡ length row
unfolding vacated
length_vacated base size home p q zero row = length-set row (base + p) 1
length_vacated base size home p q (suc most) row =
    elim (index_at row base q == 0) as (λ (b : Bool).
    length (if b then freed base size row p
    else if passes size home (index_at row base q) p q
    then vacated base size home (with_word row base p (index_at row base q)) q (around size (q + 1)) most
    else vacated base size home row p (around size (q + 1)) most) ≡ length row) [
      | true ↦ length_swept base size (around size (p + (size - 1))) size (with_word row base p 0) ∙ length-set row (base + p) 0
      | false ↦ elim (passes size home (index_at row base q) p q) as (λ (b : Bool).
          length (if b then vacated base size home (with_word row base p (index_at row base q)) q (around size (q + 1)) most
          else vacated base size home row p (around size (q + 1)) most) ≡ length row) [
            | true ↦
                length_vacated base size home q (around size (q + 1)) most (with_word row base p (index_at row base q))
                ∙ length-set row (base + p) (index_at row base q)
            | false ↦ length_vacated base size home p (around size (q + 1)) most row
          ]
    ]

pub removes_long : (base size : ℕ) (home : ℕ → ℕ) (s : ℕ) (row after : List ℕ) → Removes base size home s row after
    → length after ≡ length row
removes_long base size home s row after gone =
    ap (λ (z : List ℕ). length z) gone.3 ∙ length_vacated base size home gone.0 (around size (gone.0 + 1)) (size - 1) row

pub inserts_long : (base size home s : ℕ) (row after : List ℕ) → Inserts base size home s row after → length after ≡ length row
inserts_long base size home s row after put =
    ap (λ (z : List ℕ). length z) put.2 ∙ length-set row (base + around size (home + put.0)) (s + 1)
