-- The tally of the initial row.
use Rattle.std.proofs.Common.{◌≡◌, ◌↔◌, ⊎_elim, ℕ, ◌+◌, ◌-◌, ◌*◌, ◌/◌, ◌<◌, ◌≤◌, List, length, drop, replicate, sym, ap, ◌∙◌}
use Rattle.std.proofs.Common.{subst, arith}
use Rattle.std.specs.Prelude.{slice_index}
use Rattle.std.proofs.Math.ListN.{set}
use Rattle.std.proofs.lemmas.Bool.{cases_eq, cases_lt}
use Rattle.std.proofs.lemmas.List.{get_or-replicate, get_or-set_other, get_or_past, length-replicate, length-set}
use Rattle.std.proofs.lemmas.List.{drop-set-lt, drop-replicate}
use Rattle.std.proofs.lemmas.List.Elements.{All-replicate}
use Rattle.std.proofs.lemmas.List.Sums.{sum_by-le}
use Rattle.tree_row.specs.Slots.{Slot, slot_at}
use Rattle.tree_row.specs.OpeningRow.{opening_row}
use Rattle.tree_row.specs.laws.OpeningRow.{opens}
use Rattle.row_tally.specs.declared.note.Note.{Note}
use Rattle.row_tally.specs.Bits.{bit_in}
use Rattle.row_tally.specs.Notes.{note_at, entry_in, entries_in, AreCounted}
use Rattle.row_tally.specs.Tally.{note_of, IsTallyOf}
use Rattle.row_tally.proofs.Notes.{note_at-set_same, note_at-set_other}

abbrev free_note : Note
free_note = record { kind = 0; parent = 0 }

abbrev root_note : Note
root_note = record { kind = 1; parent = 0 }

-- the notes of this many slots
abbrev pub first_notes : ℕ → List Note
first_notes n = set (replicate n free_note) 0 root_note

length-first : (n : ℕ) → length (first_notes n) ≡ n
length-first n = length-set (replicate n free_note) 0 root_note ∙ length-replicate n free_note

later_note : (n s : ℕ) → 0 < s → s < n → note_at (first_notes n) s ≡ free_note
later_note n s after within = note_at-set_other (replicate n free_note) 0 s root_note (λ e. absurd (omega (arith, e, after)))
    ∙ get_or-replicate n s free_note free_note within

-- no directory has an entry
no_entries : (n d : ℕ) → entries_in (first_notes n) d ≡ 0
no_entries n d =
    let rest : drop 1 (first_notes n) ≡ replicate (n - 1) free_note =
    drop-set-lt 1 (replicate n free_note) 0 root_note (omega arith) ∙ drop-replicate 1 n free_note in
    let none : entry_in d free_note ≤ 0 = omega arith in
    let few = sum_by-le (entry_in d) 0 (drop 1 (first_notes n))
    (rw rest (All-replicate (λ x. entry_in d x ≤ 0) (n - 1) free_note none)) in
    omega (arith, few)

pub first_counted : (n : ℕ) (bits : List ℕ) → 0 < n → n ≤ 16385 → length bits ≡ n / 64 + 1 →
    ((s : ℕ) → (bit_in bits s ≡ 1) ↔ ((0 < s) × (s < n))) → AreCounted (first_notes n) (replicate n 0) bits
first_counted n bits some few long all = record {
  root = let same = length-first n in omega arith;
  few = let same = length-first n in omega arith;
  long = length-replicate n 0 ∙ sym (length-first n);
  entries = λ d there. get_or-replicate n d 0 0 (let same = length-first n in omega arith) ∙ sym (no_entries n d);
  room = let same = length-first n in omega arith;
  free = λ s. (
    λ one.
        let its = (all s).0 one in
        record {
          past_root = its.0;
          within = let same = length-first n in let lt = its.1 in omega arith;
          free = ap (λ z. z.kind) (later_note n s its.0 its.1);
        },
    λ free. (all s).1 (free.past_root, let same = length-first n in let lt = free.within in omega arith),
  );
}

-- the cells past the first two are 0
zero_cell : (m k : ℕ) → 1 < k → slice_index (set (set (replicate m 0) 0 1) 1 1) k ≡ 0
zero_cell m k past =
    get_or-set_other (set (replicate m 0) 0 1) 1 k 1 0 (λ e. absurd (omega (arith, e, past)))
    ∙ get_or-set_other (replicate m 0) 0 k 1 0 (λ e. absurd (omega (arith, e, past)))
    ∙ ⊎_elim
    (λ lt. get_or-replicate m k 0 0 lt)
    (λ le. get_or_past (replicate m 0) k 0 (subst (λ z. z ≤ k) (sym (length-replicate {A = ℕ} m 0)) le))
    (cases_lt k m)

same_note : (kind parent : ℕ) (slot : Slot) → slot.kind ≡ kind → slot.parent ≡ parent →
    note_of slot ≡ record { kind = kind; parent = parent }
same_note kind parent slot e f = cc

pub first_follows : (capacity : ℕ) → IsTallyOf capacity (opening_row capacity) (first_notes (capacity + 1))
first_follows capacity = record {
  long = length-first (capacity + 1);
  notes = λ s within. ⊎_elim
      (λ e. subst (λ z. note_at (first_notes (capacity + 1)) z ≡ note_of (slot_at (opening_row capacity) z)) (sym e) at_root)
      (λ apart. elsewhere s (omega (arith, apart)) within)
      (cases_eq s 0);
}
  where
    at_root : note_at (first_notes (capacity + 1)) 0 ≡ note_of (slot_at (opening_row capacity) 0)
    at_root =
        let its = (opens capacity).slots.root in
        note_at-set_same (replicate (capacity + 1) free_note) 0 root_note
        (let long = length-replicate (capacity + 1) free_note in omega arith)
        ∙ sym (same_note 1 0 (slot_at (opening_row capacity) 0) its.kind its.parent)

    elsewhere : (s : ℕ) → 0 < s → s < capacity + 1 →
        note_at (first_notes (capacity + 1)) s ≡ note_of (slot_at (opening_row capacity) s)
    elsewhere s after within = later_note (capacity + 1) s after within
        ∙ sym (same_note 0 0 (slot_at (opening_row capacity) s)
        (zero_cell _ (164 * s + 0) (omega (arith, after)))
        (zero_cell _ (164 * s + 2) (omega (arith, after))))
