-- What a row encodes after its slots, and then the words of its index, were set.
use Rattle.std.proofs.Common.{◌≡◌, ℕ, ◌+◌, ◌*◌, ◌/◌, ◌<◌, ◌≤◌, ◌≢◌, List, [], ◌∷◌, length, sym, refl, ap, ◌∙◌, subst, arith}
use Rattle.std.specs.Prelude.{slice_index, Option, Some, None, IfSome}
use mathlib.Core.Logic.{◌⊎◌, inl, inr}
use Rattle.names.specs.declared.limits.TheConstants.{LONGEST_COMPONENT}
use Rattle.directory_tree.specs.Tree.{Tree, Entry, Has}
use Rattle.row_index.specs.Places.{index_length}
use Rattle.row_index.specs.Hashes.{home}
use Rattle.row_index.specs.Index.{Indexes, IsFound}
use Rattle.row_index.specs.Edits.{index_at, Inserts}
use Rattle.row_index.proofs.Upkeep.{reworded, reused}
use Rattle.row_index.proofs.Edited.{inserts, removes, inserts_once, removes_once}
use Rattle.row_index.proofs.Cells.{inserts_before, removes_before, inserts_long, removes_long}
use Rattle.row_index.proofs.Vacancies.{not_full}
use Rattle.row_index.specs.laws.Sizes.{index_some, index_enough}
use Rattle.row_index.specs.laws.Homes.{home_within}
use Rattle.tree_row.specs.Slots.{Slot, slot_at, entry_at, IsUsed, IsDirectorySlot, IsInRange, IsRootSlot, packed}
use Rattle.tree_row.specs.Rows.{EncodesSlots, Encodes, IsIndexed, home_of, homes_in, index_base}
use Rattle.row_plan.specs.Leaves.{with_words, without_slot, without_any, with_place, AddsToIndex, RemovesFromIndex, RemovesAny}
use Rattle.row_plan.specs.inner.Rows.{KeepsOthers, SlotsEncode}
use Rattle.row_plan.specs.inner.Planned.{HasVacancy, Finds, NamesUsed}
use Rattle.row_plan.proofs.FilledCells.{slot_stays, outside, length-with_words}
use Rattle.row_plan.proofs.NewEntries.{same_entry}
use Rattle.row_plan.proofs.Encoding.{in_range_all}

-- slots that stay encode the same tree
module _ (n : ℕ) (f g : ℕ → Slot) (t : Tree) (enc : EncodesSlots n f t) (kinds : (x : ℕ) → x < n → (g x).kind ≡ (f x).kind)
    (same : (x : ℕ) → x < n → (f x).kind ≢ 0 → g x ≡ f x) where
  pub used_before : (x : ℕ) → IsUsed n g x → IsUsed n f x
  used_before x h = record { past_root = h.past_root; within = h.within; used = λ e. h.used (kinds x h.within ∙ e) }

  pub used_after : (x : ℕ) → IsUsed n f x → IsUsed n g x
  used_after x h = record { past_root = h.past_root; within = h.within; used = λ e. h.used (sym (kinds x h.within) ∙ e) }

  used_same : (x : ℕ) → IsUsed n f x → g x ≡ f x
  used_same x h = same x h.within h.used

  directory_same : (x : ℕ) → IsDirectorySlot n f x → g x ≡ f x
  directory_same x h = same x h.within (λ e. absurd (let k = h.kind in omega arith))

  directory_after : (x : ℕ) → IsDirectorySlot n f x → IsDirectorySlot n g x
  directory_after x h = record { within = h.within; kind = ap (λ (z : Slot). z.kind) (directory_same x h) ∙ h.kind }

  entry_same : (x : ℕ) → IsUsed n f x → entry_at g x ≡ entry_at f x
  entry_same x h =
      same_entry f g x (used_same x h) (ap (λ (z : Slot). z.node) (directory_same (f x).parent (enc.in_directory x h)))

  root_directory : IsDirectorySlot n f 0
  root_directory = record { within = enc.root.within; kind = enc.root.kind }

  pub slots_stay : EncodesSlots n g t
  slots_stay = record {
    root = subst (IsRootSlot n) (sym (directory_same 0 root_directory)) enc.root;
    in_directory = λ x h. let o = used_before x h in
        subst (IsDirectorySlot n g) (sym (ap (λ (z : Slot). z.parent) (used_same x o)))
        (directory_after (f x).parent (enc.in_directory x o));
    in_range = λ x h. let o = used_before x h in subst IsInRange (sym (used_same x o)) (enc.in_range x o);
    there = λ x h. let o = used_before x h in
        subst (λ (z : Entry). Has t z.of z.component z) (sym (entry_same x o)) (enc.there x o);
    held = λ d c e h. let (x, used, at_x) = enc.held d c e h in (x, used_after x used, entry_same x used ∙ at_x);
    once = λ x y hx hy alike. let ox = used_before x hx in let oy = used_before y hy in
        enc.once x y ox oy (sym (entry_same x ox) ∙ alike ∙ entry_same y oy);
  }

module _ (capacity : ℕ) where
  abbrev n : ℕ
  n = capacity + 1

  abbrev base : ℕ
  base = index_base capacity

  abbrev size : ℕ
  size = index_length capacity

  -- the words of a row's index name these slots, with these homes
  abbrev pub Words : List ℕ → (ℕ → Type 0) → (ℕ → ℕ) → Type 0
  Words row used home = Indexes size (index_at row base) used home

  abbrev pub SameWords : List ℕ → List ℕ → Type 0
  SameWords row between = (q : ℕ) → q < size → index_at between base q ≡ index_at row base q

  homes_low : (row : List ℕ) (x : ℕ) → homes_in size row x < size
  homes_low row x = home_within size (slot_at row x).parent (slot_at row x).component (index_some capacity)

  pub words_stay : (row : List ℕ) (s : ℕ) (between : List ℕ) → s < n → KeepsOthers row s between → SameWords row between
  words_stay row s between within others q near = others (base + q) (inr (omega arith))

  -- the slots that a set of them has, without one
  abbrev pub Without : (ℕ → Type 0) → ℕ → ℕ → Type 0
  Without V s x = V x × (x ≢ s)

  -- setting slots keeps what the words say
  pub still : (row between : List ℕ) → IsIndexed capacity row → SameWords row between →
      Words between (IsUsed n (slot_at row)) (homes_in size row)
  still row between keeps same =
      reworded size (index_at row base) (index_at between base) (IsUsed n (slot_at row)) (homes_in size row) (λ x is. homes_low row x) same
      keeps

  module _ (V : ℕ → Type 0) (past : (x : ℕ) → V x → (0 < x) × (x ≤ capacity)) (before row : List ℕ) (fits : base + size ≤ length row)
      (keeps : Words row V (homes_in size before)) where
    -- fewer slots are named than there are words
    pub vacant : (d : ℕ) (c : List ℕ) → HasVacancy capacity row d c
    vacant d c full =
        let twice = index_enough capacity in
        let some = index_some capacity in
        not_full size (index_at row base) V (homes_in size before) keeps (home size d c) (home_within size d c some) full capacity past
        (omega arith)

    -- the slot of an entry is found
    pub finds : (d s : ℕ) (c : List ℕ) → V s → homes_in size before s ≡ home size d c → Finds capacity row d c s
    finds d s c is own = subst (λ (z : ℕ). IsFound size (index_at row base) z s) own (keeps.found s is)

    pub names : ((x : ℕ) → V x → IsUsed n (slot_at before) x) → NamesUsed capacity before row
    names are p near = elim (keeps.others p near) [
      | inl low ↦ inl low
      | inr there ↦ inr (there.0, are there.0 there.1, there.2)
    ]

    -- a slot is removed
    pub removed : (s : ℕ) (after : List ℕ) → V s → RemovesFromIndex capacity before s row after →
        Words after (Without V s) (homes_in size before)
    removed s after is gone =
        removes base size V (Without V s) (homes_in size before) (λ x v. (past x v).0)
        (λ x v. homes_low before x) s row after fits keeps is
        (λ x v other. (v, other)) (λ x v. v) gone

    -- a slot is added; the homes are those of another row's slots then
    pub added : (V' : ℕ → Type 0) (then : List ℕ) (d s : ℕ) (c after : List ℕ) → 0 < s → ¬ (V s) → V' s → ((x : ℕ) → V x → V' x) →
        ((x : ℕ) → V' x → (x ≡ s) ⊎ V x) → ((x : ℕ) → V x → homes_in size then x ≡ homes_in size before x) →
        homes_in size then s ≡ home size d c → AddsToIndex capacity d c s row after → Words after V' (homes_in size then)
    added V' then d s c after own new now more fewer same here put =
        let rehomed = reused size (index_at row base) V V (homes_in size before) (homes_in size then) (λ x v. v) (λ x v. v) same keeps in
        inserts base size V V' (homes_in size then) (λ x v. (past x v).0) (λ x v. homes_low then x) s row after fits rehomed own
        (homes_low then s) new now more fewer (subst (λ (z : ℕ). Inserts base size z s row after) (sym here) put)

  -- the slots of a set without one that is removed, if any is
  abbrev pub WithoutAny : (ℕ → Type 0) → Option ℕ → ℕ → Type 0
  WithoutAny V None = V
  WithoutAny V (Some s) = Without V s

  pub any_removed : (V : ℕ → Type 0) → ((x : ℕ) → V x → (0 < x) × (x ≤ capacity)) → (before row : List ℕ) → base + size ≤ length row →
      Words row V (homes_in size before) → (gone : Option ℕ) → IfSome gone V → (after : List ℕ) →
      RemovesAny capacity before gone row after → Words after (WithoutAny V gone) (homes_in size before)
  any_removed V past before row fits keeps None is after same =
      subst (λ (z : List ℕ). Words z V (homes_in size before)) (sym same) keeps
  any_removed V past before row fits keeps (Some s) is after gone = removed V past before row fits keeps s after is gone

  pub any_less : (V : ℕ → Type 0) (gone : Option ℕ) (x : ℕ) → WithoutAny V gone x → V x
  any_less V None x v = v
  any_less V (Some s) x v = v.0

  -- what these edits leave is one row
  pub added_once : (d d' s s' : ℕ) (c c' row row' one other : List ℕ) → d ≡ d' → c ≡ c' → s ≡ s' → row ≡ row' →
      AddsToIndex capacity d c s row one → AddsToIndex capacity d' c' s' row' other → one ≡ other
  added_once d d' s s' c c' row row' one other pd pc ps pr put put' =
      inserts_once base size (home size d' c') s' row' one other
      (subst (λ (z : List ℕ). AddsToIndex capacity d' c' s' z one) pr
      (subst (λ (z : ℕ). AddsToIndex capacity d' c' z row one) ps
      (subst (λ (z : List ℕ). AddsToIndex capacity d' z s row one) pc
      (subst (λ (z : ℕ). AddsToIndex capacity z c s row one) pd put)))) put'

  pub removed_once : (V : ℕ → Type 0) (before : List ℕ) (s s' : ℕ) (row row' one other : List ℕ) →
      Words row' V (homes_in size before) → V s' → s ≡ s' → row ≡ row' →
      RemovesFromIndex capacity before s row one → RemovesFromIndex capacity before s' row' other → one ≡ other
  removed_once V before s s' row row' one other keeps is ps pr gone gone' =
      removes_once base size V (homes_in size before) s' row' one other keeps is
      (subst (λ (z : List ℕ). RemovesFromIndex capacity before s' z one) pr
      (subst (λ (z : ℕ). RemovesFromIndex capacity before z row one) ps gone)) gone'

  pub any_removed_once : (V : ℕ → Type 0) (before : List ℕ) (s s' : Option ℕ) (row row' one other : List ℕ) →
      Words row' V (homes_in size before) → IfSome s' V → s ≡ s' → row ≡ row' →
      RemovesAny capacity before s row one → RemovesAny capacity before s' row' other → one ≡ other
  any_removed_once V before s None row row' one other keeps is ps pr gone gone' =
      let same = subst (λ (z : Option ℕ). RemovesAny capacity before z row one) ps gone in same ∙ pr ∙ sym gone'
  any_removed_once V before s (Some s') row row' one other keeps is ps pr gone gone' =
      removed_once V before s' s' row row' one other keeps is refl pr
      (subst (λ (z : Option ℕ). RemovesAny capacity before z row one) ps gone)
      gone'

  -- slots that are set word for word
  pub freed_words : (row : List ℕ) (s : ℕ) → s < n → SameWords row (without_slot row s)
  freed_words row s within q near = outside row (164 * s) (slice_index (0 ∷ [])) 1 (base + q) (inr (omega arith))

  any_freed_words : (row : List ℕ) (s : Option ℕ) → IfSome s (λ r. r < n) → SameWords row (without_any row s)
  any_freed_words row None within q near = refl
  any_freed_words row (Some s) within q near = freed_words row s within q near

  pub placed_words : (row : List ℕ) (gone : Option ℕ) (s p : ℕ) (name : List ℕ) → IfSome gone (λ r. r < n) → s < n →
      length name ≤ LONGEST_COMPONENT → SameWords row (with_place (without_any row gone) s p name)
  placed_words row gone s p name within_gone within short q near =
      let freed = without_any row gone in
      let two = slice_index (p ∷ (length name + 65536 * (slice_index freed (164 * s + 3) / 65536)) ∷ []) in
      outside (with_words freed (164 * s + 2) two 2) (164 * s + 4) (packed name) ((length name + 7) / 8)
      (base + q) (inr (omega arith))
      ∙ outside freed (164 * s + 2) two 2 (base + q) (inr (omega arith)) ∙ any_freed_words row gone within_gone q near

  pub any_freed_long : (row : List ℕ) (gone : Option ℕ) → length (without_any row gone) ≡ length row
  any_freed_long row None = refl
  any_freed_long row (Some s) = length-with_words row (164 * s) (slice_index (0 ∷ [])) 1

  pub placed_long : (row : List ℕ) (gone : Option ℕ) (s p : ℕ) (name : List ℕ) →
      length (with_place (without_any row gone) s p name) ≡ length row
  placed_long row gone s p name =
      let freed = without_any row gone in
      let two = slice_index (p ∷ (length name + 65536 * (slice_index freed (164 * s + 3) / 65536)) ∷ []) in
      length-with_words (with_words freed (164 * s + 2) two 2) (164 * s + 4) (packed name) ((length name + 7) / 8)
      ∙ length-with_words freed (164 * s + 2) two 2 ∙ any_freed_long row gone

  -- the cells before the index stay where its words are set
  abbrev pub SameBefore : List ℕ → List ℕ → Type 0
  SameBefore row after = (k : ℕ) → k < base → slice_index after k ≡ slice_index row k

  pub adding_stays : (d s : ℕ) (c row after : List ℕ) → AddsToIndex capacity d c s row after →
      SameBefore row after × (length after ≡ length row)
  adding_stays d s c row after put = (
    inserts_before base size (home size d c) s row after put,
    inserts_long base size
        (home size d c) s row after put,
  )

  pub removing_stays : (before : List ℕ) (s : ℕ) (row after : List ℕ) → RemovesFromIndex capacity before s row after →
      SameBefore row after × (length after ≡ length row)
  removing_stays before s row after gone =
      (removes_before base size (homes_in size before) s row after gone, removes_long base size (homes_in size before) s row after gone)

  pub any_removing_stays : (before : List ℕ) (s : Option ℕ) (row after : List ℕ) → RemovesAny capacity before s row after →
      SameBefore row after × (length after ≡ length row)
  any_removing_stays before None row after same =
      (λ k near. ap (λ (z : List ℕ). slice_index z k) same, ap (λ (z : List ℕ). length z) same)
  any_removing_stays before (Some s) row after gone = removing_stays before s row after gone

  -- once the words of the index name the slots in use, the row encodes the tree that its slots encode
  module _ (between after : List ℕ) (t : Tree) (enc : SlotsEncode capacity between t) (same : SameBefore between after)
      (long : length after ≡ length between) where
    kinds_stay : (x : ℕ) → x < n → (slot_at after x).kind ≡ (slot_at between x).kind
    kinds_stay x within = same (164 * x + 0) (omega arith)

    slot_same : (x : ℕ) → x < n → (slot_at between x).kind ≢ 0 → slot_at after x ≡ slot_at between x
    slot_same x within filled = let r = in_range_all n (slot_at between) t enc.slots x within filled in
        slot_stays between after x (λ k low high. same k (omega arith)) r.0 r.1

    pub encodes : Words after (IsUsed n (slot_at between)) (homes_in size between) → Encodes capacity after t
    encodes keeps = record {
      long = long ∙ enc.long;
      slots = slots_stay n (slot_at between) (slot_at after) t enc.slots kinds_stay slot_same;
      index = reused size (index_at after base) (IsUsed n (slot_at between)) (IsUsed n (slot_at after)) (homes_in size between)
          (homes_in size after) (used_after n (slot_at between) (slot_at after) t enc.slots kinds_stay slot_same)
          (used_before n (slot_at between) (slot_at after) t enc.slots kinds_stay slot_same)
          (λ x is. ap (home_of size) (slot_same x is.within is.used)) keeps;
    }
