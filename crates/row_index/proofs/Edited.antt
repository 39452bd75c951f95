-- Insertions and removals keep the words of an index.
use Rattle.std.proofs.Common.{◌≡◌, ◌≢◌, ℕ, zero, suc, ◌+◌, ◌-◌, ◌<◌, ◌≤◌, ◌==◌, Bool, true, false, List, length}
use Rattle.std.proofs.Common.{sym, refl, ap, ◌∙◌, subst, arith, eqb-true, length-set, get_or-set_other, get_or-set_same}
use Rattle.std.specs.Prelude.{nat_lt, if◌then◌else◌}
use Rattle.std.proofs.lemmas.Bool.{and_parts, ne_eqb, eq-eqb, lt-ltb, le-ltb, ltb-true, ltb-false, cases_lt}
use mathlib.Core.Logic.{◌⊎◌, inl, inr}
use Rattle.row_index.specs.Places.{around, way}
use Rattle.row_index.specs.Index.{Indexes}
use Rattle.row_index.specs.Edits.{index_at, with_word, swept, freed, passes, vacated, Inserts, Removes}
use Rattle.row_index.specs.laws.Rounds.{around_back, around_more, around_way, around_within}
use Rattle.row_index.specs.laws.Rounds.{way_apart, way_around, way_between, way_none, way_straight}
use Rattle.row_index.proofs.Upkeep as keeping

pub set_here : (row : List ℕ) (base p x : ℕ) → base + p < length row → index_at (with_word row base p x) base p ≡ x
set_here row base p x fits = get_or-set_same row (base + p) x 0 fits

pub set_other : (row : List ℕ) (base p x q : ℕ) → q ≢ p → index_at (with_word row base p x) base q ≡ index_at row base q
set_other row base p x q other = get_or-set_other row (base + p) (base + q) x 0 (λ e. other (omega arith))

-- whether a word's slot passes a place
pub passes_read : (size : ℕ) (home : ℕ → ℕ) (word between at : ℕ) → 1 < word
    → passes size home word between at ≡ nat_lt (way size (home (word - 1)) between) (way size (home (word - 1)) at)
passes_read size home word between at named = rw (lt-ltb 1 word named)

pub passes_none : (size : ℕ) (home : ℕ → ℕ) (word between at : ℕ) → word ≤ 1 → passes size home word between at ≡ false
passes_none size home word between at low = rw (le-ltb 1 word low)

passes_parts : (size : ℕ) (home : ℕ → ℕ) (word between at : ℕ) → passes size home word between at ≡ true
    → (1 < word) × (way size (home (word - 1)) between < way size (home (word - 1)) at)
passes_parts size home word between at is =
    let both = and_parts (nat_lt 1 word) (nat_lt (way size (home (word - 1)) between) (way size (home (word - 1)) at)) is in
    (ltb-true 1 word both.0, ltb-true (way size (home (word - 1)) between) (way size (home (word - 1)) at) both.1)

pub passes_named : (size : ℕ) (home : ℕ → ℕ) (word between at : ℕ) → passes size home word between at ≡ true → 1 < word
passes_named size home word between at is = (passes_parts size home word between at is).0

not_passed : (size : ℕ) (home : ℕ → ℕ) (word between at x : ℕ) → word ≡ x + 1 → 0 < x → passes size home word between at ≡ false
    → ¬ (way size (home x) between < way size (home x) at)
not_passed size home word between at x named own stays l =
    let same : word - 1 ≡ x = omega arith in
    let low =
    ltb-false (way size (home (word - 1)) between) (way size (home (word - 1)) at)
    (sym (passes_read size home word between at (omega arith)) ∙ stays)
    in
    let at_x : way size (home x) at ≤ way size (home x) between =
    subst (λ (k : ℕ). way size (home k) at ≤ way size (home k) between) same low
    in
    absurd (omega arith)

module _ (base size : ℕ) (used : ℕ → Type 0) (home : ℕ → ℕ) (past : (x : ℕ) → used x → 0 < x)
    (homes : (x : ℕ) → used x → home x < size) where
  abbrev Keeps : List ℕ → Type 0
  Keeps row = Indexes size (index_at row base) used home

  -- sweeping keeps the index
  pub sweeps : (most p : ℕ) (row : List ℕ) → p < size → base + size ≤ length row → index_at row base (around size (p + 1)) ≡ 0
      → Keeps row → Keeps (swept base size row p most)
  unfolding swept
  sweeps zero p row within fits free keeps = keeps
  sweeps (suc most) p row within fits free keeps =
      elim (index_at row base p == 1) as (λ (b : Bool). (index_at row base p == 1) ≡ b
      → Keeps (if b then swept base size (with_word row base p 0) (around size (p + (size - 1))) most else row)) [
        | true ↦ λ is.
            let one = eqb-true (index_at row base p) 1 is in
            let l : length (with_word row base p 0) ≡ length row = length-set row (base + p) 0 in
            let here = set_here row base p 0 (omega arith) in
            let before = around_within size (p + (size - 1)) (omega arith) in
            sweeps most (around size (p + (size - 1))) (with_word row base p 0) before (omega arith)
            (ap (index_at (with_word row base p 0) base) (around_back size p within) ∙ here)
            (keeping.swept size (index_at row base) used home keeps past homes (index_at (with_word row base p 0) base) p within
            (λ q near other. set_other row base p 0 q other) (omega arith) free here)
        | false ↦ λ is. keeps
      ] refl

  -- freeing a deleted word that no way passes keeps it
  frees : (p : ℕ) (row : List ℕ) → p < size → base + size ≤ length row → Keeps (with_word row base p 1)
      → ((x r : ℕ) → used x → r < size → index_at (with_word row base p 1) base r ≡ x + 1 → ¬ (way size (home x) p < way size (home x) r))
      → Keeps (freed base size row p)
  frees p row within fits keeps none =
      let l : length (with_word row base p 0) ≡ length row = length-set row (base + p) 0 in
      let one = set_here row base p 1 (omega arith) in
      let here = set_here row base p 0 (omega arith) in
      let before = around_within size (p + (size - 1)) (omega arith) in
      sweeps size (around size (p + (size - 1))) (with_word row base p 0) before (omega arith)
      (ap (index_at (with_word row base p 0) base) (around_back size p within) ∙ here)
      (keeping.freed_keeps size (index_at (with_word row base p 1) base) used home keeps past homes
      (index_at (with_word row base p 0) base) p within
      (λ q near other. set_other row base p 0 q other ∙ sym (set_other row base p 1 q other))
      (omega arith) (omega arith) none)

  -- where a free word was met, no way passes the vacated place
  none_passes : (i p q : ℕ) (word : ℕ → ℕ) → p < size → i < size → q ≡ around size (p + i) → Indexes size word used home → word q ≡ 0
      → ((x r : ℕ) → used x → r < size → word r ≡ x + 1 → way size p r < i → ¬ (way size (home x) p < way size (home x) r))
      → (x r : ℕ) → used x → r < size → word r ≡ x + 1 → ¬ (way size (home x) p < way size (home x) r)
  none_passes i p q word within short is keeps free none x r ux near at l = elim (cases_lt (way size p r) i) [
    | inl m ↦ none x r ux near at m l
    | inr g ↦
        let there : q < size = subst (λ (z : ℕ). z < size) (sym is) (around_within size (p + i) (omega arith)) in
        let steps : way size p q ≡ i = ap (way size p) is ∙ way_around size p i within short in
        let low = homes x ux in
        let no_more = way_between size (home x) p q r low within there near (omega arith) (omega arith) in
        let apart : way size (home x) q ≢ way size (home x) r = λ e.
        let z : word r ≡ 0 = ap word (sym (way_apart size (home x) q r low there near e)) ∙ free in
        absurd (omega arith)
        in
        keeping.named_before size word used home keeps x r ux low near at q there (omega arith) free
  ]

  -- a word moves to the vacated place, and vacates its own
  moves : (p q : ℕ) (row : List ℕ) → p < size → q < size → q ≢ p → base + size ≤ length row → Keeps (with_word row base p 1)
      → passes size home (index_at row base q) p q ≡ true → Keeps (with_word (with_word row base p (index_at row base q)) base q 1)
  moves p q row here there apart fits keeps is =
      let both = passes_parts size home (index_at row base q) p q is in
      let named = both.0 in
      let at : index_at (with_word row base p 1) base q ≡ (index_at row base q - 1) + 1 = set_other row base p 1 q apart ∙ (omega arith) in
      let one = set_here row base p 1 (omega arith) in
      let l : length (with_word row base p (index_at row base q)) ≡ length row = length-set row (base + p) (index_at row base q) in
      keeping.moved size (index_at (with_word row base p 1) base) used home keeps past homes
      (index_at (with_word (with_word row base p (index_at row base q)) base q 1) base) p q (index_at row base q - 1) here there
      (λ r near rp rq.
      set_other (with_word row base p (index_at row base q)) base q 1 r rq ∙ set_other row base p (index_at row base q) r rp
      ∙ sym (set_other row base p 1 r rp))
      (keeping.named_used size (index_at (with_word row base p 1) base) used home keeps q (index_at row base q - 1) there (omega arith) at)
      (omega arith) at
      (set_other (with_word row base p (index_at row base q)) base q 1 p (λ e. apart (sym e))
      ∙ set_here row base p (index_at row base q) (omega arith) ∙ (omega arith))
      (set_here (with_word row base p (index_at row base q)) base q 1 (omega arith)) both.1

  -- Vacating a place keeps the index. Of the places from `p` on, `i` were examined: none of their words' ways passes `p`.
  pub vacates : (most i p q : ℕ) (row : List ℕ) → p < size → q ≡ around size (p + i) → 0 < i → i + most ≤ size → base + size ≤ length row
      → Keeps (with_word row base p 1)
      → ((x r : ℕ) → used x → r < size → index_at (with_word row base p 1) base r ≡ x + 1 → way size p r < i
      → ¬ (way size (home x) p < way size (home x) r))
      → Keeps (vacated base size home row p q most)
  unfolding vacated
  vacates zero i p q row within is some short fits keeps none = keeps
  vacates (suc most) i p q row within is some short fits keeps none =
      let there : q < size = subst (λ (z : ℕ). z < size) (sym is) (around_within size (p + i) (omega arith)) in
      let steps : way size p q ≡ i = ap (way size p) is ∙ way_around size p i within (omega arith) in
      let straight = way_straight size p p (omega arith) in
      let apart : q ≢ p = λ e. let z : way size p q ≡ way size p p = ap (way size p) e in absurd (omega arith) in
      let same = set_other row base p 1 q apart in
      elim (index_at row base q == 0) as (λ (b : Bool). (index_at row base q == 0) ≡ b
      → Keeps (if b then freed base size row p
      else if passes size home (index_at row base q) p q
      then vacated base size home (with_word row base p (index_at row base q)) q (around size (q + 1)) most
      else vacated base size home row p (around size (q + 1)) most)) [
        | true ↦ λ free.
            frees p row within fits keeps
            (none_passes i p q (index_at (with_word row base p 1) base) within (omega arith) is keeps
            (same ∙ eqb-true (index_at row base q) 0 free) none)
        | false ↦ λ held. elim (passes size home (index_at row base q) p q) as (λ (b : Bool).
            passes size home (index_at row base q) p q ≡ b
            → Keeps (if b then vacated base size home (with_word row base p (index_at row base q)) q (around size (q + 1)) most
            else vacated base size home row p (around size (q + 1)) most)) [
              | true ↦ λ passed.
                  let l : length (with_word row base p (index_at row base q)) ≡ length row =
                  length-set row (base + p) (index_at row base q)
                  in
                  let one = set_here (with_word row base p (index_at row base q)) base q 1 (omega arith) in
                  vacates most 1 q (around size (q + 1)) (with_word row base p (index_at row base q)) there refl (omega arith)
                  (omega arith)
                  (omega arith) (moves p q row within there apart fits keeps passed)
                  (λ x r ux near at m. absurd (
                  let own = past x ux in
                  let e = way_none size q r there near (omega arith) in
                  let z = ap (index_at (with_word (with_word row base p (index_at row base q)) base q 1) base) e in
                  omega arith))
              | false ↦ λ stays.
                  vacates most (i + 1) p (around size (q + 1)) row within
                  (around_more size p i q (around size (q + 1)) refl is (omega arith))
                  (omega arith) (omega arith) fits keeps
                  (λ x r ux near at m. elim (cases_lt (way size p r) i) [
                    | inl n ↦ none x r ux near at n
                    | inr g ↦
                        let last : way size p r ≡ i = omega arith in
                        let e : r ≡ q = sym (around_way size p r within near) ∙ ap (λ (k : ℕ). around size (p + k)) last ∙ sym is in
                        subst (λ (z : ℕ). ¬ (way size (home x) p < way size (home x) z)) (sym e)
                        (not_passed size home (index_at row base q) p q x
                        (sym same ∙ ap (index_at (with_word row base p 1) base) (sym e) ∙ at) (past x ux) stays)
                  ])
            ] refl
      ] refl

-- a removal keeps it
pub removes : (base size : ℕ) (used used' : ℕ → Type 0) (home : ℕ → ℕ) (past : (x : ℕ) → used x → 0 < x)
    (homes : (x : ℕ) → used x → home x < size) (s : ℕ) (row after : List ℕ) → base + size ≤ length row
    → Indexes size (index_at row base) used home → used s → ((x : ℕ) → used x → x ≢ s → used' x)
    → ((x : ℕ) → used' x → used x × (x ≢ s)) → Removes base size home s row after → Indexes size (index_at after base) used' home
removes base size used used' home past homes s row after fits keeps is more fewer gone =
    let p = gone.0 in
    let within = gone.1 in
    let marked = with_word row base p 1 in
    let one = set_here row base p 1 (omega arith) in
    let past' : (x : ℕ) → used' x → 0 < x = λ x now. past x (fewer x now).0 in
    subst (λ (z : List ℕ). Indexes size (index_at z base) used' home) (sym gone.3)
    (vacates base size used' home past' (λ x now. homes x (fewer x now).0) (size - 1) 1 p (around size (p + 1)) row within refl
    (omega arith) (omega arith) fits
    (keeping.deleted size (index_at row base) used home keeps past homes (index_at marked base) p within
    (λ q near other. set_other row base p 1 q other) used' s is more fewer gone.2 one)
    (λ x r ux near at m. absurd (
    let own = past' x ux in
    let e = way_none size p r within near (omega arith) in
    let z = ap (index_at marked base) e in
    omega arith)))

-- an insertion keeps it
pub inserts : (base size : ℕ) (used used' : ℕ → Type 0) (home : ℕ → ℕ) (past : (x : ℕ) → used x → 0 < x)
    (homes : (x : ℕ) → used x → home x < size) (s : ℕ) (row after : List ℕ) → base + size ≤ length row
    → Indexes size (index_at row base) used home → 0 < s → home s < size → ¬ (used s) → used' s → ((x : ℕ) → used x → used' x)
    → ((x : ℕ) → used' x → (x ≡ s) ⊎ used x) → Inserts base size (home s) s row after → Indexes size (index_at after base) used' home
inserts base size used used' home past homes s row after fits keeps own low new now more fewer put =
    let steps = put.0 in
    let vacancy = put.1 in
    let near = vacancy.within in
    let p = around size (home s + steps) in
    let within : p < size = around_within size (home s + steps) (omega arith) in
    subst (λ (z : List ℕ). Indexes size (index_at z base) used' home) (sym put.2)
    (keeping.inserted size (index_at row base) used home keeps past homes (index_at (with_word row base p (s + 1)) base) p within
    (λ q close other. set_other row base p (s + 1) q other) used' s steps own low new now more fewer vacancy refl
    (set_here row base p (s + 1) (omega arith)))

-- how sweeping continues and ends
pub swept_zero : (base size p most : ℕ) (row : List ℕ) → most ≡ 0 → swept base size row p most ≡ row
unfolding swept
swept_zero base size p most row e = rw e

pub swept_other : (base size p most : ℕ) (row : List ℕ) → index_at row base p ≢ 1 → swept base size row p most ≡ row
unfolding swept
swept_other base size p zero row other = refl
swept_other base size p (suc most) row other = rw (ne_eqb (index_at row base p) 1 other)

pub swept_more : (base size p left most : ℕ) (row : List ℕ) → left ≡ most + 1 → index_at row base p ≡ 1
    → swept base size row p left ≡ swept base size (with_word row base p 0) (around size (p + (size - 1))) most
unfolding swept
swept_more base size p left most row e one =
    let s : left ≡ suc most = omega arith in
    rw (s, eq-eqb (index_at row base p) 1 one)

-- how vacating continues and ends
pub vacated_zero : (base size : ℕ) (home : ℕ → ℕ) (row : List ℕ) (p q most : ℕ) → most ≡ 0
    → vacated base size home row p q most ≡ with_word row base p 1
unfolding vacated
vacated_zero base size home row p q most e = rw e

pub vacated_free : (base size : ℕ) (home : ℕ → ℕ) (row : List ℕ) (p q left most : ℕ) → left ≡ most + 1 → index_at row base q ≡ 0
    → vacated base size home row p q left ≡ freed base size row p
unfolding vacated
vacated_free base size home row p q left most e free =
    let s : left ≡ suc most = omega arith in
    rw (s, eq-eqb (index_at row base q) 0 free)

pub vacated_moved : (base size : ℕ) (home : ℕ → ℕ) (row : List ℕ) (p q left most : ℕ) → left ≡ most + 1
    → passes size home (index_at row base q) p q ≡ true
    → vacated base size home row p q left ≡ vacated base size home (with_word row base p (index_at row base q)) q
    (around size (q + 1)) most
unfolding vacated
vacated_moved base size home row p q left most e passed =
    let s : left ≡ suc most = omega arith in
    let both = passes_parts size home (index_at row base q) p q passed in
    let named = both.0 in
    rw (s, ne_eqb (index_at row base q) 0 (λ z. absurd (omega arith)), passed)

pub vacated_stays : (base size : ℕ) (home : ℕ → ℕ) (row : List ℕ) (p q left most : ℕ) → left ≡ most + 1 → index_at row base q ≢ 0
    → passes size home (index_at row base q) p q ≡ false
    → vacated base size home row p q left ≡ vacated base size home row p (around size (q + 1)) most
unfolding vacated
vacated_stays base size home row p q left most e held stays =
    let s : left ≡ suc most = omega arith in
    rw (s, ne_eqb (index_at row base q) 0 held, stays)

-- what insertions and removals leave is one row
pub inserts_once : (base size home s : ℕ) (row one other : List ℕ) → Inserts base size home s row one → Inserts base size home s row other
    → one ≡ other
inserts_once base size home s row one other a b =
    a.2
    ∙ ap (λ (k : ℕ). with_word row base (around size (home + k)) (s + 1))
    (keeping.vacancy_once size (index_at row base) home a.0 b.0 a.1 b.1)
    ∙ sym b.2

pub removes_once : (base size : ℕ) (used : ℕ → Type 0) (home : ℕ → ℕ) (s : ℕ) (row one other : List ℕ)
    → Indexes size (index_at row base) used home → used s → Removes base size home s row one → Removes base size home s row other
    → one ≡ other
removes_once base size used home s row one other keeps is a b =
    a.3
    ∙ ap (λ (p : ℕ). vacated base size home row p (around size (p + 1)) (size - 1)) (keeps.once a.0 b.0 s a.1 b.1 is a.2 b.2)
    ∙ sym b.3
