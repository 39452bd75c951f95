-- What a row encodes is a proposition: an entry is in one slot only.
use Rattle.std.proofs.Common.{◌≡◌, ◌≢◌, ℕ, ◌+◌, ◌<◌, ◌≤◌, List, length, sym, ap, ◌∙◌, subst, arith}
use mathlib.Core.Logic.{◌⊎◌, inl, inr}
use Rattle.std.specs.Prelude.{Ok}
use Rattle.std.specs.Coded.{codes}
use Rattle.directory_tree.specs.declared.change.Change.{Change}
use Rattle.directory_tree.specs.Apply.{Changed, tree_after}
use Rattle.directory_tree.specs.Tree.{Tree, Entry, Has}
use Rattle.names.specs.laws.Results.{same_Ok}
use Rattle.tree_row.specs.Slots.{Slot, entry_at, slot_at, IsUsed, IsRootSlot, IsDirectorySlot, IsInRange}
use Rattle.row_index.specs.Places.{around, index_length}
use Rattle.row_index.specs.Index.{IsFound}
use Rattle.row_index.specs.Edits.{index_at}
use Rattle.row_index.specs.laws.Rounds.{around_within, around_apart}
use Rattle.row_index.specs.laws.Homes.{home_within}
use Rattle.row_index.specs.laws.Sizes.{index_some}
use Rattle.tree_row.specs.Rows.{EncodesSlots, Encodes, IsIndexed, index_base, homes_in, row_length}
use Rattle.row_plan.specs.Changes.{EncodesChanges}

used_prop : (n : ℕ) (f : ℕ → Slot) (s : ℕ) → IsProp (IsUsed n f s)
used_prop n f s = hlevel codes

entry_prop : (a b : Entry) → IsProp (a ≡ b)
entry_prop a b = hlevel codes

tree_prop : (a b : Changed) → IsProp (a ≡ b)
tree_prop a b = hlevel codes

root_prop : (n : ℕ) (own : Slot) → IsProp (IsRootSlot n own)
root_prop n own = hlevel codes

directory_prop : (n : ℕ) (f : ℕ → Slot) (s : ℕ) → IsProp (IsDirectorySlot n f s)
directory_prop n f s = hlevel codes

range_prop : (own : Slot) → IsProp (IsInRange own)
range_prop own = hlevel codes

has_prop : (t : Tree) (d : ℕ) (c : List ℕ) (e : Entry) → IsProp (Has t d c e)
has_prop t d c e = hlevel codes

number_prop : (a b : ℕ) → IsProp (a ≡ b)
number_prop a b = hlevel codes

abbrev Held : (n : ℕ) (f : ℕ → Slot) (e : Entry) → Type 0
Held n f e = (s : ℕ) × IsUsed n f s × (entry_at f s ≡ e)

held_prop : (n : ℕ) (f : ℕ → Slot) (e : Entry) → ((s r : ℕ) → IsUsed n f s → IsUsed n f r → entry_at f s ≡ entry_at f r → s ≡ r) →
    IsProp (Held n f e)
held_prop n f e once (s, used, is) (r, used', is') = joined s r (once s r used used' (is ∙ sym is')) used is used' is' where
  at_one : (s : ℕ) (u u' : IsUsed n f s) (p p' : entry_at f s ≡ e) → (let x : Held n f e = (s, u, p) in x)
      ≡ (let y : Held n f e = (s, u', p') in y)
  at_one s u u' p p' = λ i. (s, used_prop n f s u u' i, entry_prop (entry_at f s) e p p' i)

  joined : (s r : ℕ) → s ≡ r → (u : IsUsed n f s) (p : entry_at f s ≡ e) (u' : IsUsed n f r) (p' : entry_at f r ≡ e) →
      (let x : Held n f e = (s, u, p) in x) ≡ (let y : Held n f e = (r, u', p') in y)
  joined s r same u p = subst (λ (z : ℕ). (u' : IsUsed n f z) (p' : entry_at f z ≡ e) → (let x : Held n f e = (s, u, p) in x)
      ≡ (let y : Held n f e = (z, u', p') in y)) same (λ u' p'. at_one s u u' p p')

pub slots_prop : (n : ℕ) (f : ℕ → Slot) (t : Tree) → IsProp (EncodesSlots n f t)
slots_prop n f t x y = λ i. record {
  root = root_prop n (f 0) x.root y.root i;
  in_directory = λ s u. directory_prop n f (f s).parent (x.in_directory s u) (y.in_directory s u) i;
  in_range = λ s u. range_prop (f s) (x.in_range s u) (y.in_range s u) i;
  there = λ s u. has_prop t (entry_at f s).of (entry_at f s).component (entry_at f s) (x.there s u) (y.there s u) i;
  held = λ d c e h. held_prop n f e x.once (x.held d c e h) (y.held d c e h) i;
  once = λ s r u v same. number_prop s r (x.once s r u v same) (y.once s r u v same) i;
}

less_prop : (a b : ℕ) → IsProp (a < b)
less_prop a b = hlevel codes

most_prop : (a b : ℕ) → IsProp (a ≤ b)
most_prop a b = hlevel codes

other_prop : (a b : ℕ) → IsProp (a ≢ b)
other_prop a b = hlevel codes

-- a search finds at most one word that names a slot
module _ (size : ℕ) (word : ℕ → ℕ) (home s : ℕ) where
  abbrev Here : ℕ → Type 0
  Here k = word (around size (home + k)) ≡ s + 1

  abbrev Reached : ℕ → Type 0
  Reached k = (i : ℕ) → i < k → word (around size (home + i)) ≢ 0

  abbrev found : (k : ℕ) → k < size → Here k → Reached k → IsFound size word home s
  found k within here reached = record { steps = k; within = within; here = here; reached = reached }

  at_one : (k : ℕ) (w w' : k < size) (h h' : Here k) (r r' : Reached k) → found k w h r ≡ found k w' h' r'
  at_one k w w' h h' r r' = λ i. found k (less_prop k size w w' i) (number_prop (word (around size (home + k))) (s + 1) h h' i)
      (λ j l. other_prop (word (around size (home + j))) 0 (r j l) (r' j l) i)

  joined : (k m : ℕ) → k ≡ m → (w : k < size) (h : Here k) (r : Reached k) (w' : m < size) (h' : Here m) (r' : Reached m) →
      found k w h r ≡ found m w' h' r'
  joined k m same w h r = subst (λ (z : ℕ). (w' : z < size) (h' : Here z) (r' : Reached z) → found k w h r ≡ found z w' h' r') same
      (λ w' h' r'. at_one k w w' h h' r r')

  found_prop : home < size → ((p q : ℕ) → p < size → q < size → word p ≡ s + 1 → word q ≡ s + 1 → p ≡ q) →
      IsProp (IsFound size word home s)
  found_prop low once x y =
      let near = x.within in
      let far = y.within in
      joined x.steps y.steps (around_apart size home x.steps y.steps low near far
      (once (around size (home + x.steps)) (around size (home + y.steps)) (around_within size (home + x.steps) (omega arith))
      (around_within size (home + y.steps) (omega arith)) x.here y.here))
      x.within x.here x.reached y.within y.here y.reached

-- what a word of the index is
abbrev Named : (n : ℕ) (f : ℕ → Slot) (word : ℕ) → Type 0
Named n f word = (s : ℕ) × IsUsed n f s × (word ≡ s + 1)

named_prop : (n : ℕ) (f : ℕ → Slot) (word : ℕ) → IsProp (Named n f word)
named_prop n f word (s, used, is) (r, used', is') = joined s r (omega arith) used is used' is' where
  at_one : (s : ℕ) (u u' : IsUsed n f s) (p p' : word ≡ s + 1) → (let x : Named n f word = (s, u, p) in x)
      ≡ (let y : Named n f word = (s, u', p') in y)
  at_one s u u' p p' = λ i. (s, used_prop n f s u u' i, number_prop word (s + 1) p p' i)

  joined : (s r : ℕ) → s ≡ r → (u : IsUsed n f s) (p : word ≡ s + 1) (u' : IsUsed n f r) (p' : word ≡ r + 1) →
      (let x : Named n f word = (s, u, p) in x) ≡ (let y : Named n f word = (r, u', p') in y)
  joined s r same u p = subst (λ (z : ℕ). (u' : IsUsed n f z) (p' : word ≡ z + 1) → (let x : Named n f word = (s, u, p) in x)
      ≡ (let y : Named n f word = (z, u', p') in y)) same (λ u' p'. at_one s u u' p p')

word_prop : (n : ℕ) (f : ℕ → Slot) (word : ℕ) → IsProp ((word ≤ 1) ⊎ Named n f word)
word_prop n f word (inl a) (inl b) = ap inl (most_prop word 1 a b)
word_prop n f word (inl a) (inr (s, used, is)) = absurd (let past = used.past_root in omega arith)
word_prop n f word (inr (s, used, is)) (inl b) = absurd (let past = used.past_root in omega arith)
word_prop n f word (inr a) (inr b) = ap inr (named_prop n f word a b)

module _ (capacity : ℕ) (row : List ℕ) where
  abbrev size : ℕ
  size = index_length capacity

  abbrev word : ℕ → ℕ
  word = index_at row (index_base capacity)

  pub index_prop : IsProp (IsIndexed capacity row)
  index_prop x y = λ i. record {
    found = λ s u. found_prop size word (homes_in size row s) s
        (home_within size (slot_at row s).parent (slot_at row s).component (index_some capacity))
        (λ p q near far one two. x.once p q s near far u one two) (x.found s u) (y.found s u) i;
    once = λ p q s near far u one two. number_prop p q (x.once p q s near far u one two) (y.once p q s near far u one two) i;
    others = λ p near. word_prop (capacity + 1) (slot_at row) (word p) (x.others p near) (y.others p near) i;
  }

pub encodes_prop : (capacity : ℕ) (row : List ℕ) (t : Tree) → IsProp (Encodes capacity row t)
encodes_prop capacity row t x y = λ i. record {
  long = number_prop (length row) (row_length capacity) x.long y.long i;
  slots = slots_prop (capacity + 1) (slot_at row) t x.slots y.slots i;
  index = index_prop capacity row x.index y.index i;
}

pub changes_prop : (capacity : ℕ) (cells : List ℕ) (changes : List Change) → IsProp (EncodesChanges capacity cells changes)
changes_prop capacity cells changes (t, made, encodes) (u, made', encodes') = joined t u (same_Ok t u (sym made ∙ made')) made
    encodes made' encodes' where
      at_one : (t : Tree) (p p' : tree_after capacity changes ≡ Ok t) (e e' : Encodes capacity cells t) →
          (let x : EncodesChanges capacity cells changes = (t, p, e) in x)
          ≡ (let y : EncodesChanges capacity cells changes = (t, p', e') in y)
      at_one t p p' e e' = λ i. (t, tree_prop (tree_after capacity changes) (Ok t) p p' i, encodes_prop capacity cells t e e' i)

      joined : (t u : Tree) → t ≡ u → (p : tree_after capacity changes ≡ Ok t) (e : Encodes capacity cells t)
          (p' : tree_after capacity changes
          ≡ Ok u) (e' : Encodes capacity cells u) → (let x : EncodesChanges capacity cells changes = (t, p, e) in x)
          ≡ (let y : EncodesChanges capacity cells changes = (u, p', e') in y)
      joined t u same p e = subst (λ (z : Tree). (p' : tree_after capacity changes ≡ Ok z) (e' : Encodes capacity cells z) →
          (let x : EncodesChanges capacity cells changes = (t, p, e) in x)
          ≡ (let y : EncodesChanges capacity cells changes = (z, p', e') in
          y)) same (λ p' e'. at_one t p p' e e')
