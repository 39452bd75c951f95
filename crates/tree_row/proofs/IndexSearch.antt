-- What the words of an index say of the slots that they name.
use Rattle.std.proofs.Common.{◌≡◌, ◌≢◌, ℕ, ◌+◌, ◌<◌, ◌≤◌, List, Some, None, sym, ap, ◌∙◌, subst, arith}
use Rattle.std.specs.Prelude.{slice_index}
use mathlib.Core.Logic.{inl, inr, dite}
use native.Mathlib.Decide.{ℕ_discrete}
use Rattle.path_lookup.specs.World.{World}
use Rattle.row_index.specs.Places.{around, index_length}
use Rattle.row_index.specs.Hashes.{home}
use Rattle.row_index.specs.Index.{Ends}
use Rattle.row_index.specs.Edits.{index_at}
use Rattle.row_index.proofs.Upkeep.{missed}
use Rattle.tree_row.specs.Slots.{slot_at, IsUsed, IsChildSlot}
use Rattle.tree_row.specs.Rows.{index_base, home_of}
use Rattle.tree_row.specs.Worlds.{EncodesWorld, Fewer, Reads}
use Rattle.tree_row.specs.Search.{InEncoding, EncodesNone, TellsNamed, TellsFound}

module _ (capacity : ℕ) (row : List ℕ) (w : World) (enc : EncodesWorld capacity row w) (d : ℕ) (c : List ℕ) where
  abbrev size : ℕ
  size = index_length capacity

  abbrev word : ℕ → ℕ
  word = index_at row (index_base capacity)

  abbrev Child : ℕ → Type 0
  Child s = IsChildSlot (capacity + 1) (slot_at row) d c s

  home_is : (s : ℕ) → Child s → home_of size (slot_at row s) ≡ home size d c
  home_is s h = λ i. home size (h.under i) (h.named i)

  -- a search that ends without the child's slot shows that there is no child
  pub unseen : (steps : ℕ) → Ends size word (home size d c) steps →
      ((i s : ℕ) → i < steps → Child s → word (around size (home size d c + i)) ≢ s + 1) → (s : ℕ) → ¬ (Child s)
  unseen steps ends none s h =
      missed size word (IsUsed (capacity + 1) (slot_at row)) (λ x. home_of size (slot_at row x)) enc.tree.index s steps h.used
      (subst (λ (z : ℕ). Ends size word z steps) (sym (home_is s h)) ends)
      (λ i l. subst (λ (z : ℕ). word (around size (z + i)) ≢ s + 1) (sym (home_is s h)) (none i s l h))

  -- no index has a word past the slots
  pub far : (p n : ℕ) → p < size → word p ≡ n → capacity + 2 ≤ n → ⊥
  far p n near is over = elim (enc.tree.index.others p near) [
    | inl low ↦ absurd (omega arith)
    | inr there ↦ let e = there.2 in let u = there.1 in let l = u.within in absurd (omega arith)
  ]

-- a slot that a word of the index names is used
pub named_used : (capacity : ℕ) (row : List ℕ) (w : World) → EncodesWorld capacity row w → (place word s : ℕ) →
    place < index_length capacity → index_at row (index_base capacity) place ≡ word → word ≡ s + 1 → 0 < s →
    IsUsed (capacity + 1) (slot_at row) s
named_used capacity row w enc place word s near at is past = elim (enc.tree.index.others place near) [
  | inl low ↦ absurd (omega arith)
  | inr there ↦ subst (IsUsed (capacity + 1) (slot_at row)) (let same = there.2 in let e : there.0 ≡ s = omega arith in e) there.1
]

pub found_named : (capacity : ℕ) (may may' : List ℕ → Type 0) (d : ℕ) (c : List ℕ) (place word s : ℕ) → Fewer may may' →
    place < index_length capacity → Reads may (λ row. slice_index row (index_base capacity + place)) word →
    TellsNamed capacity may' d c word (Some s) → TellsFound capacity may' d c (Some s)
found_named capacity may may' d c place word s fewer near reads (past, within, is, child) = (
  within,
  λ row w m enc. child row w m enc (named_used capacity row w enc place word s near (reads row (fewer row m)) is past),
)

-- no word read so far names the child
abbrev pub NoneBefore : ℕ → (List ℕ → Type 0) → ℕ → List ℕ → ℕ → Type 0
NoneBefore capacity may d c steps =
    InEncoding capacity may (λ row. (i s : ℕ) → i < steps → IsChildSlot (capacity + 1) (slot_at row) d c s
    → index_at row (index_base capacity) (around (index_length capacity) (home (index_length capacity) d c + i)) ≢ s + 1)

module _ (capacity : ℕ) (may may' : List ℕ → Type 0) (d : ℕ) (c : List ℕ) (fewer : Fewer may may') (steps place word : ℕ)
    (at : place ≡ around (index_length capacity) (home (index_length capacity) d c + steps))
    (reads : Reads may' (λ row. slice_index row (index_base capacity + place)) word) where
  here : (row : List ℕ) → may' row → index_at row (index_base capacity)
      (around (index_length capacity) (home (index_length capacity) d c + steps)) ≡ word
  here row m = ap (index_at row (index_base capacity)) (sym at) ∙ reads row m

  pub before_more : NoneBefore capacity may d c steps → TellsNamed capacity may' d c word None → NoneBefore capacity may' d c (steps + 1)
  before_more none told row w m enc i s l child e = dite (ℕ_discrete i steps)
      (λ same. told row w m enc s child (sym (here row m) ∙ ap
      (λ (z : ℕ). index_at row (index_base capacity) (around (index_length capacity) (home (index_length capacity) d c + z)))
      (sym same) ∙ e))
      (λ other. none row w (fewer row m) enc i s (omega arith) child e)

  -- a word that is 0 ends the search
  pub ends_free : NoneBefore capacity may d c steps → word ≡ 0 → TellsFound capacity may' d c None
  ends_free none free row w m enc = unseen capacity row w enc d c steps (inr (here row m ∙ free))
      (λ i s l child. none row w (fewer row m) enc i s l child)

  pub too_far : place < index_length capacity → capacity + 2 ≤ word → EncodesNone capacity may'
  too_far near over row w m enc = far capacity row w enc d c place word near (reads row m) over

-- all words were read
pub ends_all : (capacity : ℕ) (may : List ℕ → Type 0) (d : ℕ) (c : List ℕ) (steps : ℕ) → steps ≡ index_length capacity →
    NoneBefore capacity may d c steps → TellsFound capacity may d c None
ends_all capacity may d c steps all none row w m enc = unseen capacity row w enc d c steps (inl all)
    (λ i s l child. none row w m enc i s l child)
