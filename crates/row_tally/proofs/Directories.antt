-- Whether a directory has entries, by its count.
use Rattle.std.proofs.Common.{◌≡◌, ⊎_elim, ℕ, ◌+◌, ◌<◌, ◌==◌, Bool, true, false, List, refl, sym, ap, ◌∙◌, arith}
use Rattle.std.proofs.lemmas.Bool.Decides.{eqb_tells}
use Rattle.tree_row.specs.Slots.{slot_at}
use Rattle.tree_row.specs.Questions.{Tells, IsEntryOf}
use Rattle.row_tally.specs.declared.note.Note.{Note}
use Rattle.row_tally.specs.Notes.{note_at, entries_in}
use Rattle.row_tally.specs.Tally.{IsTallyOf}
use Rattle.row_tally.proofs.Entries.{is_counted, entry_there, entry_counted}

answered : (b : Bool) (P : Type 0) → (b ≡ true → P) → (b ≡ false → ¬ P) → Tells b P
answered true P on_true _ = on_true refl
answered false P _ on_false = on_false refl

zero_tells : (n : ℕ) (P : Type 0) → (n ≡ 0 → P) → (0 < n → ¬ P) → Tells (n == 0) P
zero_tells n P none some = answered (n == 0) P
    (λ e. ⊎_elim (λ t. none t.1) (λ t. absurd (cc (e, t.0))) (eqb_tells n 0))
    (λ e. ⊎_elim (λ t. absurd (cc (e, t.0))) (λ t. let apart = t.1 in some (omega (arith, apart))) (eqb_tells n 0))

pub is_empty_tells : (capacity : ℕ) (row : List ℕ) (notes : List Note) (directory count : ℕ) → IsTallyOf capacity row notes →
    count ≡ entries_in notes directory →
    Tells (count == 0) ((s : ℕ) → ¬ (IsEntryOf (capacity + 1) (slot_at row) directory s))
is_empty_tells capacity row notes directory count follows counted = zero_tells count _
    (λ none s entry.
    let before = entry.used.within in
    let same = follows.notes s before in
    let one = entry_there directory (note_at notes s) (λ free. entry.used.used (sym (ap (λ z. z.kind) same) ∙ free))
    (ap (λ z. z.parent) same ∙ entry.under) in
    let few = is_counted notes directory s entry.used.past_root (let long = follows.long in omega arith) in
    absurd (omega (arith, none, counted, one, few)))
    (λ some no_entry.
    let it = entry_counted notes directory (omega (arith, some, counted)) in
    let before : it.0 < capacity + 1 = omega (arith, it.2, follows.long) in
    let same = follows.notes it.0 before in
    no_entry it.0 (record {
      used = record {
        past_root = it.1;
        within = before;
        used = λ free. it.3 (ap (λ z. z.kind) same ∙ free);
      };
      under = sym (ap (λ z. z.parent) same) ∙ it.4;
    }))
