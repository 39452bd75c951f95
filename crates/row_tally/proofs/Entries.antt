-- Entries of directories, counted.
use Rattle.std.proofs.Common.{◌≡◌, ◌≢◌, ⊎_elim, ℕ, ◌+◌, ◌-◌, ◌<◌, ◌≤◌, Bool, true, cond, List, [], ◌∷◌, length, get_or, drop, suc}
use Rattle.std.proofs.Common.{sym, ap, ◌∙◌, subst, arith}
use Rattle.std.specs.List.{count_by, sum_by}
use Rattle.std.proofs.Math.ListN.{set}
use Rattle.std.proofs.lemmas.Bool.{cases_Bool}
use Rattle.std.proofs.lemmas.Bool.Decides.{nat_tests}
use Rattle.std.proofs.lemmas.List.{get_or-drop, length-drop, drop-set-add}
use Rattle.std.proofs.lemmas.List.Sums.{sum_by-cons, sum_by-set, get_or-le-sum_by, count_by-le-length}
use Rattle.row_tally.specs.declared.note.Note.{Note}
use Rattle.row_tally.specs.Notes.{note_at, is_entry_in, entry_in, entries_in}

-- the note that is returned for a missing one
abbrev no_note : Note
no_note = record { kind = 0; parent = 0 }

-- a slot past the root's, in the list of those slots
past : (notes : List Note) (s : ℕ) → 0 < s → get_or (drop 1 notes) (s - 1) no_note ≡ note_at notes s
past notes s after = get_or-drop 1 notes (s - 1) no_note ∙ ap (note_at notes) (omega (arith, after))

-- each entry is counted
pub is_counted : (notes : List Note) (d s : ℕ) → 0 < s → s < length notes → entry_in d (note_at notes s) ≤ entries_in notes d
is_counted notes d s after within =
    subst (λ z. entry_in d z ≤ entries_in notes d) (past notes s after)
    (get_or-le-sum_by (entry_in d) (drop 1 notes) (s - 1) no_note (omega (arith, length-drop 1 notes, after, within)))

-- there are fewer entries than slots
pub entries_few : (notes : List Note) (d : ℕ) → entries_in notes d ≤ length notes
entries_few notes d = omega (arith, count_by-le-length (is_entry_in d) (drop 1 notes), length-drop 1 notes)

-- the note of a slot past the root's is another now
pub entries_in-set : (notes : List Note) (d s : ℕ) (note : Note) → 0 < s → s < length notes →
    entries_in (set notes s note) d + entry_in d (note_at notes s) ≡ entries_in notes d + entry_in d note
entries_in-set notes d s note after within =
    let at : s ≡ 1 + (s - 1) = omega (arith, after) in
    let moved : drop 1 (set notes s note) ≡ set (drop 1 notes) (s - 1) note =
    ap (λ z. drop 1 (set notes z note)) at ∙ drop-set-add 1 notes (s - 1) note in
    let sums = sum_by-set (entry_in d) (drop 1 notes) (s - 1) note no_note (omega (arith, length-drop 1 notes, after, within)) in
    ap (λ z. sum_by (entry_in d) z + entry_in d (note_at notes s)) moved
    ∙ ap (λ z. sum_by (entry_in d) (set (drop 1 notes) (s - 1) note) + entry_in d z) (sym (past notes s after))
    ∙ sums

-- what an entry is
pub entry_there : (d : ℕ) (note : Note) → note.kind ≢ 0 → note.parent ≡ d → entry_in d note ≡ 1
entry_there d note used under = grind (arith, nat_tests)

pub entry_from : (d : ℕ) (note : Note) → is_entry_in d note ≡ true → (note.kind ≢ 0) × (note.parent ≡ d)
entry_from d note is = (grind (arith, nat_tests), grind (arith, nat_tests))

-- where some are counted, there is one
one_counted : (p : Note → Bool) (notes : List Note) → 0 < count_by p notes →
    (i : ℕ) × (i < length notes) × (p (get_or notes i no_note) ≡ true)
one_counted p [] some = absurd (omega (arith, some))
one_counted p (note ∷ notes) some = ⊎_elim
    (λ yes. (0, omega arith, yes))
    (λ no.
    let rest = one_counted p notes (omega (arith, some, sum_by-cons (λ x. cond (p x) 1 0) note notes, ap {B = ℕ} (λ b. cond b 1 0) no)) in
    (suc rest.0, omega (arith, rest.1), rest.2))
    (cases_Bool (p note))

pub entry_counted : (notes : List Note) (d : ℕ) → 0 < entries_in notes d →
    (s : ℕ) × (0 < s) × (s < length notes) × ((note_at notes s).kind ≢ 0) × ((note_at notes s).parent ≡ d)
entry_counted notes d some =
    let one = one_counted (is_entry_in d) (drop 1 notes) some in
    let is : is_entry_in d (note_at notes (1 + one.0)) ≡ true =
    ap (is_entry_in d) (sym (get_or-drop 1 notes one.0 no_note)) ∙ one.2 in
    let its = entry_from d (note_at notes (1 + one.0)) is in
    (1 + one.0, omega arith, omega (arith, one.1, length-drop 1 notes), its.0, its.1)
