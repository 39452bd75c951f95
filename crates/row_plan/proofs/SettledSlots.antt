-- The contents of slots after their cells were set.
use Rattle.std.proofs.Common.{◌≡◌, ℕ, ◌+◌, ◌*◌, ◌/◌, ◌%◌, ◌<◌, ◌≤◌, ◌≢◌, List, [], ◌∷◌, length, sym, ap, ◌∙◌, subst, arith}
use Rattle.std.specs.Prelude.{slice_index, Option, Some, None, IfSome}
use mathlib.Core.Logic.{◌⊎◌, inl, inr}
use Rattle.names.specs.declared.limits.TheConstants.{LONGEST_COMPONENT}
use Rattle.directory_tree.specs.Apply.{longest_link_text}
use Rattle.tree_row.specs.Slots.{Slot, slot_at, text_at, packed}
use Rattle.row_rule.specs.declared.cell.Cell.{Cell}
use Rattle.row_rule.specs.Row.{write}
use Rattle.row_plan.specs.Plan.{IsLean}
use Rattle.row_plan.specs.Leaves.{with_words, with_text, with_slot, without_slot, with_place}
use Rattle.row_plan.specs.inner.Rows.{Drafts, SameFrom, FreesAny, MovesSlot, KeepsOthers, SetsSlot, FreesSlot, moved_slot}
use Rattle.tree_row.proofs.PackedWords.{text_packed}
use Rattle.tree_row.specs.inner.Words.{IsPacked}
use Rattle.row_plan.proofs.FilledCells.{length-with_words, outside, inside, text_stays, slot_stays}

-- a slot whose cells are all set
module _ (row : List ℕ) (s : ℕ) (own : Slot) (fits : 164 * s + 164 ≤ length row) (short : length own.component ≤ LONGEST_COMPONENT)
    (short_text : length own.text ≤ longest_link_text)
    (packs : IsPacked own.component) (packs_text : IsPacked own.text) where
  abbrev lengths : ℕ
  lengths = length own.component + 65536 * length own.text

  abbrev numbers : ℕ → ℕ
  numbers = slice_index (own.kind ∷ own.node ∷ own.parent ∷ lengths ∷ [])

  abbrev numbered : List ℕ
  numbered = with_words row (164 * s) numbers 4

  abbrev named : List ℕ
  named = with_text numbered (164 * s + 4) own.component

  abbrev after : List ℕ
  after = with_slot row s own

  number : (j : ℕ) → j < 4 → slice_index after (164 * s + j) ≡ numbers j
  number j l =
      outside named (164 * s + 36) (packed own.text) ((length own.text + 7) / 8) (164 * s + j) (inl (omega arith))
      ∙ outside numbered (164 * s + 4) (packed own.component) ((length own.component + 7) / 8) (164 * s + j) (inl (omega arith))
      ∙ inside row (164 * s) numbers 4 j l (omega arith)

  long_numbered : length numbered ≡ length row
  long_numbered = length-with_words row (164 * s) numbers 4

  long_named : length named ≡ length row
  long_named = length-with_words numbered (164 * s + 4) (packed own.component) ((length own.component + 7) / 8) ∙ long_numbered

  component : text_at after (164 * s + 4) (slice_index after (164 * s + 3) % 65536) ≡ own.component
  component =
      let n = number 3 (omega arith) in
      ap (text_at after (164 * s + 4)) (let e : slice_index after (164 * s + 3) % 65536 ≡ length own.component = omega arith in e)
      ∙ text_packed after (164 * s + 4) own.component packs (λ k l. let m = long_numbered in
      outside named (164 * s + 36) (packed own.text) ((length own.text + 7) / 8) (164 * s + 4 + k) (inl (omega arith))
      ∙ inside numbered (164 * s + 4) (packed own.component) ((length own.component + 7) / 8) k l (omega arith))

  text : text_at after (164 * s + 36) (slice_index after (164 * s + 3) / 65536) ≡ own.text
  text =
      let n = number 3 (omega arith) in
      ap (text_at after (164 * s + 36)) (let e : slice_index after (164 * s + 3) / 65536 ≡ length own.text = omega arith in e)
      ∙ text_packed after (164 * s + 36) own.text packs_text (λ k l. let m = long_named in inside named (164 * s + 36) (packed own.text)
      ((length own.text + 7) / 8) k l (omega arith))

  pub slot_filled : SetsSlot row s own after
  slot_filled =
      let kind_is = number 0 (omega arith) in
      let node_is = number 1 (omega arith) in
      let parent_is = number 2 (omega arith) in
      let component_is = component in
      let text_is = text in
      record {
        long = length-with_words named (164 * s + 36) (packed own.text) ((length own.text + 7) / 8) ∙ long_named;
        here = λ i. record { kind = kind_is i; node = node_is i; parent = parent_is i; component = component_is i; text = text_is i };
        others = λ k out.
            outside named (164 * s + 36) (packed own.text) ((length own.text + 7) / 8) k (grind arith)
            ∙ outside numbered (164 * s + 4) (packed own.component) ((length own.component + 7) / 8) k (grind arith)
            ∙ outside row (164 * s) numbers 4 k (grind arith);
      }

-- a slot that is freed
pub slot_freed : (row : List ℕ) (s : ℕ) → 164 * s + 164 ≤ length row → FreesSlot row s (without_slot row s)
slot_freed row s fits = record {
  long = length-with_words row (164 * s) (slice_index (0 ∷ [])) 1;
  here = inside row (164 * s) (slice_index (0 ∷ [])) 1 0 (omega arith) (omega arith);
  others = λ k out. outside row (164 * s) (slice_index (0 ∷ [])) 1 k (grind arith);
}

-- a slot whose entry moves
module _ (row : List ℕ) (s parent : ℕ) (name : List ℕ) (fits : 164 * s + 164 ≤ length row) (short : length name ≤ LONGEST_COMPONENT)
    (short_text : length (slot_at row s).text ≤ longest_link_text) (packs : IsPacked name) where
  abbrev text_length : ℕ
  text_length = slice_index row (164 * s + 3) / 65536

  abbrev two : ℕ → ℕ
  two = slice_index (parent ∷ (length name + 65536 * text_length) ∷ [])

  abbrev put : List ℕ
  put = with_words row (164 * s + 2) two 2

  abbrev moved : List ℕ
  moved = with_place row s parent name

  long_put : length put ≡ length row
  long_put = length-with_words row (164 * s + 2) two 2

  number_put : (j : ℕ) → j < 2 → slice_index moved (164 * s + 2 + j) ≡ two j
  number_put j l = outside put (164 * s + 4) (packed name) ((length name + 7) / 8) (164 * s + 2 + j) (inl (omega arith))
      ∙ inside row (164 * s + 2) two 2 j l (omega arith)

  kept_before : (j : ℕ) → j < 2 → slice_index moved (164 * s + j) ≡ slice_index row (164 * s + j)
  kept_before j l = outside put (164 * s + 4) (packed name) ((length name + 7) / 8) (164 * s + j) (inl (omega arith))
      ∙ outside row (164 * s + 2) two 2 (164 * s + j) (inl (omega arith))

  kept_behind : (k : ℕ) → 164 * s + 36 ≤ k → slice_index moved k ≡ slice_index row k
  kept_behind k l = outside put (164 * s + 4) (packed name) ((length name + 7) / 8) k (inr (omega arith)) ∙ outside row (164 * s + 2) two
      2 k (inr (omega arith))

  lengths_put : slice_index moved (164 * s + 3) ≡ length name + 65536 * text_length
  lengths_put = ap (slice_index moved) (let e : 164 * s + 3 ≡ 164 * s + 2 + 1 = omega arith in e) ∙ number_put 1 (omega arith)

  parent_put : slice_index moved (164 * s + 2) ≡ parent
  parent_put = ap (slice_index moved) (let e : 164 * s + 2 ≡ 164 * s + 2 + 0 = omega arith in e) ∙ number_put 0 (omega arith)

  name_put : text_at moved (164 * s + 4) (slice_index moved (164 * s + 3) % 65536) ≡ name
  name_put =
      let n = lengths_put in
      ap (text_at moved (164 * s + 4)) (let e : slice_index moved (164 * s + 3) % 65536 ≡ length name = omega arith in e)
      ∙ text_packed moved (164 * s + 4) name packs (λ k l. let m = long_put in inside put (164 * s + 4) (packed name)
      ((length name + 7) / 8) k l (omega arith))

  text_kept : text_at moved (164 * s + 36) (slice_index moved (164 * s + 3) / 65536) ≡ text_at row (164 * s + 36) text_length
  text_kept =
      let n = lengths_put in
      ap (text_at moved (164 * s + 36)) (let e : slice_index moved (164 * s + 3) / 65536 ≡ text_length = omega arith in e)
      ∙ text_stays row moved (164 * s + 36) text_length (λ k low high. kept_behind k low)

  pub slot_moved : SetsSlot row s (moved_slot (slot_at row s) parent name) moved
  slot_moved =
      let kind_is = kept_before 0 (omega arith) in
      let node_is = kept_before 1 (omega arith) in
      let parent_is = parent_put in
      let component_is = name_put in
      let text_is = text_kept in
      record {
        long = length-with_words put (164 * s + 4) (packed name) ((length name + 7) / 8) ∙ long_put;
        here = λ i. record { kind = kind_is i; node = node_is i; parent = parent_is i; component = component_is i; text = text_is i };
        others = λ k out.
            outside put (164 * s + 4) (packed name) ((length name + 7) / 8) k (grind arith)
            ∙ outside row (164 * s + 2) two 2 k (grind arith);
      }

-- the other slots that are in range stay
pub other_stays : (row : List ℕ) (s : ℕ) (after : List ℕ) → KeepsOthers row s after → (x : ℕ) → x ≢ s
    → length (slot_at row x).component ≤ LONGEST_COMPONENT → length (slot_at row x).text ≤ longest_link_text →
    slot_at after x ≡ slot_at row x
other_stays row s after others x other short short_text = slot_stays row after x (λ k low high. others k (grind arith)) short short_text

pub other_kind : (row : List ℕ) (s : ℕ) (after : List ℕ) → KeepsOthers row s after → (x : ℕ) → x ≢ s → (slot_at after x).kind
    ≡ (slot_at row x).kind
other_kind row s after others x other = others (164 * x + 0) (grind arith)

-- cells of a run that were not set before are the row's
pub run_untouched : (row : List ℕ) (base : ℕ) (word : ℕ → ℕ) (n start count : ℕ) → (start + count ≤ base) ⊎ (base + n ≤ start) →
    SameFrom row (with_words row base word n) start count
run_untouched row base word n start count out k l = outside row base word n (start + k) (grind arith)

pub same_after : (row after : List ℕ) (base : ℕ) (word : ℕ → ℕ) (n start count : ℕ) → SameFrom row after start count →
    (start + count ≤ base) ⊎ (base + n ≤ start) → SameFrom row (with_words after base word n) start count
same_after row after base word n start count same out k l = outside after base word n (start + k) (grind arith) ∙ same k l

-- the plan of a slot that is filled
pub fills : (row : List ℕ) (plan : List Cell) (base s : ℕ) (own : Slot) → base ≡ 164 * s + 0
    → Drafts row plan (with_text
    (with_text (with_words row base
    (slice_index (own.kind ∷ own.node ∷ own.parent ∷ (length own.component + 65536 * length own.text) ∷ [])) 4)
    (base + 4) own.component) (base + 36) own.text)
    → 164 * s + 164 ≤ length row → length own.component ≤ LONGEST_COMPONENT → length own.text ≤ longest_link_text →
    IsPacked own.component →
    IsPacked own.text → IsLean row plan × SetsSlot row s own (write row plan) × (write row plan ≡ with_slot row s own)
fills row plan base s own is draft fits short short_text packs packs_text =
    let e : base ≡ 164 * s = omega arith in
    let d : Drafts row plan (with_slot row s own) =
    subst (λ (b : ℕ). Drafts row plan
    (with_text (with_text
    (with_words row b (slice_index (own.kind ∷ own.node ∷ own.parent ∷ (length own.component + 65536 * length own.text) ∷ [])) 4)
    (b + 4) own.component) (b + 36) own.text)) e draft in
    (d.lean, subst (SetsSlot row s own) (sym d.gives) (slot_filled row s own fits short short_text packs packs_text), d.gives)

-- of a slot that is freed
pub frees : (row : List ℕ) (plan : List Cell) (base s : ℕ) → base ≡ 164 * s + 0 →
    Drafts row plan (with_words row base (slice_index (0 ∷ [])) 1) → 164 * s + 164 ≤ length row
    → IsLean row plan × FreesSlot row s (write row plan) × (write row plan ≡ without_slot row s)
frees row plan base s is draft fits =
    let e : base ≡ 164 * s = omega arith in
    let d : Drafts row plan (without_slot row s) = subst (λ (b : ℕ). Drafts row plan (with_words row b (slice_index (0 ∷ [])) 1))
    e draft in
    (d.lean, subst (FreesSlot row s) (sym d.gives) (slot_freed row s fits), d.gives)

-- a slot that is not freed stays
pub replaced_stays : (row between : List ℕ) (s : ℕ) (replaced : Option ℕ) → FreesAny row replaced between → IfSome replaced (λ r. r ≢ s) →
    (k : ℕ) → 164 * s ≤ k → k < 164 * s + 164 → slice_index between k ≡ slice_index row k
replaced_stays row between s None freed other k low high = ap (λ (z : List ℕ). slice_index z k) freed
replaced_stays row between s (Some r) freed other k low high = freed.others k (grind arith)

pub long_between : (row between : List ℕ) (replaced : Option ℕ) → FreesAny row replaced between → length between ≡ length row
long_between row between None freed = ap (λ (z : List ℕ). length z) freed
long_between row between (Some r) freed = freed.long

-- of a slot whose entry moves, after another slot was freed
pub moves : (row between : List ℕ) (plan : List Cell) (base s parent lengths : ℕ) (name : List ℕ) (replaced : Option ℕ) →
    base ≡ 164 * s + 0 → FreesAny row replaced between → lengths ≡ slice_index between (164 * s + 3)
    → Drafts row plan (with_text (with_words between (base + 2) (slice_index (parent ∷ (length name + 65536 * (lengths / 65536)) ∷ [])) 2)
    (base + 4) name)
    → 164 * s + 164 ≤ length between → length name ≤ LONGEST_COMPONENT → length (slot_at between s).text ≤ longest_link_text →
    IsPacked name
    → MovesSlot row plan s parent name replaced × (write row plan ≡ with_place between s parent name)
moves row between plan base s parent lengths name replaced is freed reads draft fits short short_text packs =
    let e : base ≡ 164 * s = omega arith in
    let d : Drafts row plan (with_place between s parent name) =
    subst (λ (n : ℕ). Drafts row plan
    (with_text (with_words between (164 * s + 2) (slice_index (parent ∷ (length name + 65536 * (n / 65536)) ∷ [])) 2)
    (164 * s + 4) name)) reads
    (subst (λ (b : ℕ). Drafts row plan
    (with_text (with_words between (b + 2) (slice_index (parent ∷ (length name + 65536 * (lengths / 65536)) ∷ [])) 2) (b + 4) name))
    e draft) in (
      record {
        lean = d.lean;
        between = between;
        frees = freed;
        moves = subst (SetsSlot between s (moved_slot (slot_at between s) parent name)) (sym d.gives)
            (slot_moved between s parent name fits short short_text packs);
      },
      d.gives,
    )
