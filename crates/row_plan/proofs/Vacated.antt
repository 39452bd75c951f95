-- How the vacating of a place of an index continues and ends, in the row that a plan makes.
use Rattle.std.proofs.Common.{◌≡◌, ◌≢◌, ℕ, ◌+◌, ◌<◌, ◌≤◌, List, length, true, false, refl, sym, ap, ◌∙◌, subst, arith}
use mathlib.Core.Logic.{dite}
use native.Mathlib.Decide.{ℕ_discrete}
use Rattle.row_index.specs.Places.{around}
use Rattle.row_index.specs.Edits.{index_at, with_word, freed, passes, vacated}
use Rattle.row_index.proofs.Edited.{set_here, set_other, vacated_zero, vacated_free, vacated_moved, vacated_stays}
use Rattle.tree_row.specs.Rows.{homes_in}
use Rattle.row_rule.specs.declared.cell.Cell.{Cell}
use Rattle.row_rule.specs.Row.{write}
use Rattle.row_plan.specs.Plan.{IsLean}
use Rattle.row_plan.specs.inner.Rows.{Drafts}
use Rattle.row_plan.specs.inner.Words.{IsWordOf, NamesIn}
use Rattle.row_plan.proofs.Drops.{length_drafted}

-- `final` is what is left of the row that a plan makes, once the place `p` is vacated, where at most this many words from `q` on may
-- still move back
pub record IsVacating (capacity base size : ℕ) (row final : List ℕ) (plan : List Cell) (p q most : ℕ) : Type 0 where
  pub lean : IsLean row plan
  pub named : NamesIn capacity base size row (write row plan)
  pub rest : vacated base size (homes_in size row) (write row plan) p q most ≡ final

-- a word of the index is set at another place of it
names_more : (capacity base size : ℕ) (row now : List ℕ) (p word : ℕ) → p < size → base + size ≤ length now
    → NamesIn capacity base size row now → IsWordOf capacity row word → NamesIn capacity base size row (with_word now base p word)
names_more capacity base size row now p word within fits named is r near = dite (ℕ_discrete r p)
    (λ e. subst (IsWordOf capacity row)
    (sym (ap (index_at (with_word now base p word) base) e ∙ set_here now base p word (omega arith))) is)
    (λ other. subst (IsWordOf capacity row) (sym (set_other now base p word r other)) (named r near))

module _ (capacity base size : ℕ) (row final : List ℕ) (plan : List Cell) (p q left : ℕ)
    (so_far : IsVacating capacity base size row final plan p q left) where
  abbrev now : List ℕ
  now = write row plan

  abbrev homes : ℕ → ℕ
  homes = homes_in size row

  pub drafted : Drafts row plan now
  drafted = record { gives = refl; lean = so_far.lean }

  -- no word may move back any more
  pub ends_deleted : (plan' : List Cell) → left ≡ 0 → Drafts row plan' (with_word now base p 1) → Drafts row plan' final
  ends_deleted plan' none = subst (Drafts row plan') (sym (vacated_zero base size homes now p q left none) ∙ so_far.rest)

  module _ (word most : ℕ) (more : left ≡ most + 1) (reads : word ≡ index_at now base q) where
    -- a free word ends it
    pub ends_free : (plan' : List Cell) → word ≡ 0 → Drafts row plan' (freed base size now p) → Drafts row plan' final
    ends_free plan' free =
        subst (Drafts row plan') (sym (vacated_free base size homes now p q left most more (sym reads ∙ free)) ∙ so_far.rest)

    -- a word that no search misses stays
    pub stays : (next : ℕ) → next ≡ around size (q + 1) → word ≢ 0 → passes size homes word p q ≡ false
        → IsVacating capacity base size row final plan p next most
    stays next is held passed = record {
      lean = so_far.lean;
      named = so_far.named;
      rest = ap (λ (z : ℕ). vacated base size homes now p z most) is
          ∙ sym (vacated_stays base size homes now p q left most more (λ e. held (reads ∙ e))
          (subst (λ (z : ℕ). passes size homes z p q ≡ false) reads passed))
          ∙ so_far.rest;
    }

    -- any other one moves back, and vacates its own place
    pub moves : (plan' : List Cell) (next : ℕ) → next ≡ around size (q + 1) → p < size → q < size → base + size ≤ length row
        → passes size homes word p q ≡ true → Drafts row plan' (with_word now base p word)
        → IsVacating capacity base size row final plan' q next most
    moves plan' next is here there fits passed draft =
        let long = length_drafted row plan now drafted in
        let named = subst (IsWordOf capacity row) (sym reads) (so_far.named q there) in
        let gives = draft.gives ∙ ap (with_word now base p) reads in
        record {
          lean = draft.lean;
          named = subst (NamesIn capacity base size row) (sym draft.gives)
              (names_more capacity base size row now p word here (omega arith) so_far.named named);
          rest = (λ i. vacated base size homes (gives i) q (is i) most)
              ∙ sym (vacated_moved base size homes now p q left most more
              (subst (λ (z : ℕ). passes size homes z p q ≡ true) reads passed))
              ∙ so_far.rest;
        }
