-- An entry is removed: its slot becomes free.
use Rattle.std.proofs.Common.{◌≡◌, ℕ, ◌<◌, ◌≢◌, Bool, true, false, List, Some, sym, refl, ap, ◌∙◌, subst, arith, true≢false}
use Rattle.std.specs.Prelude.{bytes_eq}
use mathlib.Core.Logic.{dite}
use native.Mathlib.Decide.{ℕ_discrete}
use Rattle.directory_tree.specs.Tree.{Tree, Entry, find}
use Rattle.directory_tree.specs.Apply.{without, dropped}
use Rattle.std.proofs.lemmas.Option.{none-some, same_Some}
use Rattle.std.proofs.lemmas.Slice.Eq.{bytes_eq-Decides}
use Rattle.directory_tree.specs.laws.Found.{find-without_same, find-without_other, found_at, Apart}
use Rattle.tree_row.specs.Slots.{Slot, entry_at, IsUsed, IsDirectorySlot, IsInRange, IsRootSlot}
use Rattle.tree_row.specs.Rows.{EncodesSlots}
use Rattle.row_plan.proofs.NewEntries.{same_entry}

-- two keys are the same, or apart
pub keys : {A : Type 0} (d : ℕ) (c : List ℕ) (d' : ℕ) (c' : List ℕ) → ((d' ≡ d) × (c' ≡ c) → A) → (Apart d c d' c' → A) → A
keys {A} d c d' c' yes_case no_case = dite (ℕ_discrete d' d)
    (λ x. elim (bytes_eq c' c) as (λ (b : Bool). bytes_eq c' c ≡ b → A) [
      | true ↦ λ y. yes_case (x, (bytes_eq-Decides c' c).0 y)
      | false ↦ λ y. no_case (λ p q. absurd (true≢false (sym ((bytes_eq-Decides c' c).1 q) ∙ y)))
    ] refl)
    (λ x. no_case (λ p q. x p))

-- what a used slot stands for is found at its key alone
pub found_there : (n : ℕ) (f : ℕ → Slot) (t : Tree) (x d : ℕ) (c : List ℕ) → EncodesSlots n f t → IsUsed n f x → (entry_at f x).of ≡ d →
    (entry_at f x).component ≡ c → find t.entries d c ≡ Some (entry_at f x)
found_there n f t x d c enc h p q = (λ i. find t.entries (sym p i) (sym q i)) ∙ enc.there x h

-- the slot at a key
pub slot_of_key : (n : ℕ) (f : ℕ → Slot) (t : Tree) (x y d : ℕ) (c : List ℕ) → EncodesSlots n f t → IsUsed n f x → IsUsed n f y →
    find t.entries d c ≡ Some (entry_at f y) → (entry_at f x).of ≡ d → (entry_at f x).component ≡ c → x ≡ y
slot_of_key n f t x y d c enc hx hy is p q = enc.once x y hx hy (same_Some _ _ (sym (found_there n f t x d c enc hx p q) ∙ is))

module _ (n : ℕ) (f g : ℕ → Slot) (t : Tree) (d : ℕ) (c : List ℕ) (r : ℕ) (enc : EncodesSlots n f t) (used : IsUsed n f r)
    (is : find t.entries d c ≡ Some (entry_at f r))
    (childless : (x : ℕ) → IsUsed n f x → (f x).parent ≢ r) (here : (g r).kind ≡ 0) (kinds : (x : ℕ) → x ≢ r → (g x).kind ≡ (f x).kind)
    (same : (x : ℕ) → x < n → x ≢ r → (f x).kind ≢ 0 → g x ≡ f x) where
  used_same : (x : ℕ) → x ≢ r → IsUsed n f x → g x ≡ f x
  used_same x other h = same x h.within other h.used

  directory_same : (x : ℕ) → x ≢ r → IsDirectorySlot n f x → g x ≡ f x
  directory_same x other h = same x h.within other (λ e. absurd (let k = h.kind in omega arith))

  abbrev after : List Entry
  after = without d c t.entries

  -- a slot that is used afterwards is not the freed one
  used_apart : (x : ℕ) → IsUsed n g x → x ≢ r
  used_apart x h e = h.used (ap (λ (z : ℕ). (g z).kind) e ∙ here)

  was_used : (x : ℕ) → IsUsed n g x → IsUsed n f x
  was_used x h = record { past_root = h.past_root; within = h.within; used = λ e. h.used (kinds x (used_apart x h) ∙ e) }

  stays_used : (x : ℕ) → x ≢ r → IsUsed n f x → IsUsed n g x
  stays_used x other h = record { past_root = h.past_root; within = h.within; used = λ e. h.used (sym (kinds x other) ∙ e) }

  was_entry : (x : ℕ) → x ≢ r → IsUsed n f x → entry_at g x ≡ entry_at f x
  was_entry x other h = same_entry f g x (used_same x other h)
      (ap (λ (z : Slot). z.node) (directory_same (f x).parent (childless x h) (enc.in_directory x h)))

  stays_directory : (x : ℕ) → x ≢ r → IsDirectorySlot n f x → IsDirectorySlot n g x
  stays_directory x other h = record { within = h.within; kind = kinds x other ∙ h.kind }

  root_apart : 0 ≢ r
  root_apart e = absurd (let p = used.past_root in omega arith)

  there_after : (x : ℕ) → IsUsed n g x → find after (entry_at g x).of (entry_at g x).component ≡ Some (entry_at g x)
  there_after x h =
      let other = used_apart x h in
      let o = was_used x h in
      let apart : Apart d c (entry_at f x).of (entry_at f x).component = λ p q. other (slot_of_key n f t x r d c enc o used is p q) in
      subst (λ (z : Entry). find after z.of z.component ≡ Some z) (sym (was_entry x other o))
      (find-without_other t.entries d c _ _ apart ∙ enc.there x o)

  held_after : (d' : ℕ) (c' : List ℕ) (e : Entry) → find after d' c' ≡ Some e → (x : ℕ) × IsUsed n g x × (entry_at g x ≡ e)
  held_after d' c' e h = keys d c d' c'
      (λ same. absurd (none-some e (sym (find-without_same t.entries d c) ∙ (λ i. find after (sym same.0 i) (sym same.1 i)) ∙ h)))
      (λ apart.
      let (x, o, at_x) = enc.held d' c' e (sym (find-without_other t.entries d c d' c' apart) ∙ h) in
      let key = found_at t.entries d' c' e (sym (find-without_other t.entries d c d' c' apart) ∙ h) in
      let own = found_at t.entries d c (entry_at f r) is in
      let other : x ≢ r = λ p. apart (sym key.0 ∙ ap (λ (z : Entry). z.of) (sym at_x ∙ ap (entry_at f) p) ∙ own.0)
      (sym key.1 ∙ ap (λ (z : Entry). z.component) (sym at_x ∙ ap (entry_at f) p) ∙ own.1) in
      (x, stays_used x other o, was_entry x other o ∙ at_x))

  root_directory : IsDirectorySlot n f 0
  root_directory = record { within = enc.root.within; kind = enc.root.kind }

  pub removed : EncodesSlots n g (dropped t d c)
  removed = record {
    root = subst (IsRootSlot n) (sym (directory_same 0 root_apart root_directory)) enc.root;
    in_directory = λ x h. let o = was_used x h in
        subst (IsDirectorySlot n g) (sym (ap (λ (z : Slot). z.parent) (used_same x (used_apart x h) o)))
        (stays_directory _ (childless x o) (enc.in_directory x o));
    in_range = λ x h. let o = was_used x h in subst IsInRange (sym (used_same x (used_apart x h) o)) (enc.in_range x o);
    there = there_after;
    held = held_after;
    once = λ x y hx hy alike. enc.once x y (was_used x hx) (was_used y hy) (sym (was_entry x (used_apart x hx) (was_used x hx)) ∙ alike
        ∙ was_entry y (used_apart y hy) (was_used y hy));
  }
