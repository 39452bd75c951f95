-- Where no word of an index is deleted and one is free, none is deleted after an insertion or a removal.
use Rattle.std.proofs.Common.{◌≡◌, ◌≢◌, ℕ, zero, suc, ◌+◌, ◌-◌, ◌<◌, ◌≤◌, ◌==◌, Bool, true, false, List, length}
use Rattle.std.proofs.Common.{sym, refl, ap, ◌∙◌, subst, arith, length-set}
use Rattle.std.proofs.lemmas.Bool.{eqb-false}
use Rattle.std.specs.Prelude.{if◌then◌else◌}
use mathlib.Core.Logic.{dite}
use native.Mathlib.Decide.{ℕ_discrete}
use Rattle.row_index.specs.Places.{around, way}
use Rattle.row_index.specs.Edits.{index_at, with_word, freed, passes, vacated, Inserts, Removes}
use Rattle.row_index.specs.laws.Rounds.{around_within, way_less, way_within}
use Rattle.row_index.proofs.Edited.{passes_named, set_here, set_other, swept_other}

-- no word of the index is deleted
abbrev pub IsUndeleted : ℕ → (ℕ → ℕ) → Type 0
IsUndeleted size word = (r : ℕ) → r < size → word r ≢ 1

-- one word was set
set_undeleted : (base size p x : ℕ) (row : List ℕ) → base + size ≤ length row → x ≢ 1
    → ((r : ℕ) → r < size → r ≢ p → index_at row base r ≢ 1) → IsUndeleted size (index_at (with_word row base p x) base)
set_undeleted base size p x row fits other clean r near e = dite (ℕ_discrete r p)
    (λ here. other (sym (set_here row base r x (omega arith)) ∙ ap (λ (k : ℕ). index_at (with_word row base k x) base r) here ∙ e))
    (λ apart. clean r near apart (sym (set_other row base p x r apart) ∙ e))

freed_undeleted : (base size p : ℕ) (row : List ℕ) → p < size → base + size ≤ length row
    → ((r : ℕ) → r < size → r ≢ p → index_at row base r ≢ 1) → IsUndeleted size (index_at (freed base size row p) base)
freed_undeleted base size p row within fits clean =
    let all = set_undeleted base size p 0 row fits (λ z. absurd (omega arith)) clean in
    let before = around_within size (p + (size - 1)) (omega arith) in
    subst (λ (z : List ℕ). IsUndeleted size (index_at z base))
    (sym (swept_other base size (around size (p + (size - 1))) size (with_word row base p 0) (all (around size (p + (size - 1))) before)))
    all

-- the free word is met before all places are examined
vacated_undeleted : (base size : ℕ) (home : ℕ → ℕ) (most p q free : ℕ) (row : List ℕ) → p < size → q < size → free < size → free ≢ p
    → base + size ≤ length row → index_at row base free ≡ 0 → way size q free < most
    → ((r : ℕ) → r < size → r ≢ p → index_at row base r ≢ 1) → IsUndeleted size (index_at (vacated base size home row p q most) base)
unfolding vacated
vacated_undeleted base size home zero p q free row here there near apart fits is short clean = absurd (omega arith)
vacated_undeleted base size home (suc most) p q free row here there near apart fits is short clean =
    let next = around_within size (q + 1) (omega arith) in
    elim (index_at row base q == 0) as (λ (b : Bool). (index_at row base q == 0) ≡ b
    → IsUndeleted size (index_at (if b then freed base size row p
    else if passes size home (index_at row base q) p q
    then vacated base size home (with_word row base p (index_at row base q)) q (around size (q + 1)) most
    else vacated base size home row p (around size (q + 1)) most) base)) [
      | true ↦ λ met. freed_undeleted base size p row here fits clean
      | false ↦ λ held.
          let word = eqb-false (index_at row base q) 0 held in
          let other : q ≢ free = λ e. word (ap (index_at row base) e ∙ is) in
          let less = way_less size q free there near other in
          elim (passes size home (index_at row base q) p q) as (λ (b : Bool). passes size home (index_at row base q) p q ≡ b
          → IsUndeleted size (index_at (if b
          then vacated base size home (with_word row base p (index_at row base q)) q (around size (q + 1)) most
          else vacated base size home row p (around size (q + 1)) most) base)) [
            | true ↦ λ passed.
                let moving = index_at row base q in
                let named = passes_named size home (index_at row base q) p q passed in
                let l : length (with_word row base p moving) ≡ length row = length-set row (base + p) moving in
                vacated_undeleted base size home most q (around size (q + 1)) free (with_word row base p moving) there next near
                (λ e. other (sym e)) (omega arith) (set_other row base p moving free apart ∙ is) (omega arith)
                (λ r close rq. set_undeleted base size p moving row fits (λ e. absurd (omega arith)) clean r close)
            | false ↦ λ stays.
                vacated_undeleted base size home most p (around size (q + 1)) free row here next near apart fits is (omega arith) clean
          ] refl
    ] refl

pub removes_undeleted : (base size : ℕ) (home : ℕ → ℕ) (s free : ℕ) (row after : List ℕ) → base + size ≤ length row
    → IsUndeleted size (index_at row base) → free < size → index_at row base free ≡ 0 → Removes base size home s row after
    → IsUndeleted size (index_at after base)
removes_undeleted base size home s free row after fits clean near is gone =
    let p = gone.0 in
    let within = gone.1 in
    let here = gone.2 in
    let other : free ≢ p = λ e. let z = ap (index_at row base) e in absurd (omega arith) in
    let less = way_less size p free within near (λ e. other (sym e)) in
    let short = way_within size p free within near in
    let next = around_within size (p + 1) (omega arith) in
    subst (λ (z : List ℕ). IsUndeleted size (index_at z base)) (sym gone.3)
    (vacated_undeleted base size home (size - 1) p (around size (p + 1)) free row within next near other fits is (omega arith)
    (λ r close apart. clean r close))

pub inserts_undeleted : (base size home s : ℕ) (row after : List ℕ) → base + size ≤ length row → 0 < s
    → IsUndeleted size (index_at row base) → Inserts base size home s row after → IsUndeleted size (index_at after base)
inserts_undeleted base size home s row after fits own clean put =
    subst (λ (z : List ℕ). IsUndeleted size (index_at z base)) (sym put.2)
    (set_undeleted base size (around size (home + put.0)) (s + 1) row fits (λ e. absurd (omega arith)) (λ r near apart. clean r near))
