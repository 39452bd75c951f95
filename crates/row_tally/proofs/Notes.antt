-- The tally of notes of which one has changed.
use Rattle.std.proofs.Common.{◌≡◌, ◌≢◌, ◌↔◌, ⊎_elim, ℕ, ◌+◌, ◌<◌, List, length, slice_index, sym, ap, ◌∙◌, subst, arith}
use Rattle.std.proofs.Math.ListN.{set}
use Rattle.std.proofs.lemmas.Bool.{cases_eq}
use Rattle.std.proofs.lemmas.List.{length-set, get_or-set_same, get_or-set_other}
use Rattle.row_tally.specs.declared.note.Note.{Note}
use Rattle.row_tally.specs.Bits.{bit_in}
use Rattle.row_tally.specs.Notes.{note_at, entry_in, IsFreeNote, AreCounted}
use Rattle.row_tally.proofs.Entries.{entries_in-set}

pub note_at-set_same : (notes : List Note) (s : ℕ) (note : Note) → s < length notes → note_at (set notes s note) s ≡ note
note_at-set_same notes s note within = get_or-set_same notes s note (record { kind = 0; parent = 0 }) within

pub note_at-set_other : (notes : List Note) (s r : ℕ) (note : Note) → r ≢ s → note_at (set notes s note) r ≡ note_at notes r
note_at-set_other notes s r note apart = get_or-set_other notes s r note (record { kind = 0; parent = 0 }) apart

-- which slots are free where one has another note
module _ (notes : List Note) (s : ℕ) (note : Note) (after : 0 < s) (within : s < length notes) where
  free_there : IsFreeNote (set notes s note) s ↔ (note.kind ≡ 0)
  free_there = (
    λ h. ap (λ z. z.kind) (sym (note_at-set_same notes s note within)) ∙ h.free,
    λ e. record {
      past_root = after;
      within = let long = length-set notes s note in omega arith;
      free = ap (λ z. z.kind) (note_at-set_same notes s note within) ∙ e;
    },
  )

  free_elsewhere : (r : ℕ) → r ≢ s → IsFreeNote (set notes s note) r ↔ IsFreeNote notes r
  free_elsewhere r apart = (
    λ h. record {
      past_root = h.past_root;
      within = let long = length-set notes s note in let w = h.within in omega arith;
      free = ap (λ z. z.kind) (sym (note_at-set_other notes s r note apart)) ∙ h.free;
    },
    λ h. record {
      past_root = h.past_root;
      within = let long = length-set notes s note in let w = h.within in omega arith;
      free = ap (λ z. z.kind) (note_at-set_other notes s r note apart) ∙ h.free;
    },
  )

  -- the counts are those without the old note, and then with the new one
  pub AreCounted-set : (counts lower higher bits marked : List ℕ) → AreCounted notes counts bits →
      length lower ≡ length counts → length higher ≡ length counts → length marked ≡ length bits →
      ((d : ℕ) → d < length counts → slice_index lower d + entry_in d (note_at notes s) ≡ slice_index counts d) →
      ((d : ℕ) → d < length lower → slice_index higher d ≡ slice_index lower d + entry_in d note) →
      (bit_in marked s ≡ 1) ↔ (note.kind ≡ 0) → ((r : ℕ) → r ≢ s → bit_in marked r ≡ bit_in bits r) →
      AreCounted (set notes s note) higher marked
  AreCounted-set counts lower higher bits marked was lower_long long bits_long lowers raises here others = record {
    root = let it = was.root in let same = length-set notes s note in omega arith;
    few = let it = was.few in let same = length-set notes s note in omega arith;
    long = long ∙ was.long ∙ sym (length-set notes s note);
    entries = λ d there.
        let same = length-set notes s note in
        let fits = was.long in
        let inside : d < length counts = omega arith in
        let down = lowers d inside in
        let up = raises d (omega arith) in
        let counted = was.entries d (omega arith) in
        let change = entries_in-set notes d s note after within in
        omega arith;
    room = let it = was.room in let same = length-set notes s note in omega arith;
    free = λ r. ⊎_elim
        (λ e. subst (λ z. (bit_in marked z ≡ 1) ↔ IsFreeNote (set notes s note) z) (sym e)
        (λ one. free_there.1 (here.0 one), λ free. here.1 (free_there.0 free)))
        (λ apart. (
          λ one. (free_elsewhere r apart).1 ((was.free r).0 (sym (others r apart) ∙ one)),
          λ free. others r apart ∙ (was.free r).1 ((free_elsewhere r apart).0 free),
        ))
        (cases_eq r s);
  }

-- the same, as the code does it: the counts are lowered in one list, and raised in another
pub AreCounted-noted : (notes : List Note) (s : ℕ) (old note : Note) (counts low lower high higher bits marked : List ℕ) → s ≢ 0 →
    s < length notes → old ≡ note_at notes s → AreCounted notes counts bits → low ≡ counts → high ≡ lower →
    length lower ≡ length low → length higher ≡ length high → length marked ≡ length bits →
    ((d : ℕ) → d < length low → slice_index lower d + entry_in d old ≡ slice_index low d) →
    ((d : ℕ) → d < length high → slice_index higher d ≡ slice_index high d + entry_in d note) →
    (bit_in marked s ≡ 1) ↔ (note.kind ≡ 0) → ((r : ℕ) → r ≢ s → bit_in marked r ≡ bit_in bits r) →
    AreCounted (set notes s note) higher marked
AreCounted-noted notes s old note counts low lower high higher bits marked after within old_is was low_is high_is lower_long
    higher_long bits_long lowers raises here others =
    AreCounted-set notes s note (omega (arith, after)) within counts lower higher bits marked was (lower_long ∙ ap length low_is)
    (higher_long ∙ ap length high_is ∙ lower_long ∙ ap length low_is) bits_long
    (subst (λ z. (d : ℕ) → d < length counts → slice_index lower d + entry_in d z ≡ slice_index counts d) old_is
    (subst (λ z. (d : ℕ) → d < length z → slice_index lower d + entry_in d old ≡ slice_index z d) low_is lowers))
    (subst (λ z. (d : ℕ) → d < length z → slice_index higher d ≡ slice_index z d + entry_in d note) high_is raises)
    here others
