-- An entry goes to a place that is free.
use Rattle.std.proofs.Common.{◌≡◌, ℕ, ◌<◌, ◌≤◌, ◌≢◌, List, length, Some, None, sym, ap, ◌∙◌, subst, arith}
use mathlib.Core.Logic.{dite}
use native.Mathlib.Decide.{ℕ_discrete}
use Rattle.names.specs.declared.limits.TheConstants.{LONGEST_COMPONENT}
use Rattle.directory_tree.specs.Tree.{Tree, Entry, find}
use Rattle.directory_tree.specs.Apply.{entry, placed}
use Rattle.std.proofs.lemmas.Option.{none-some, same_Some}
use Rattle.directory_tree.specs.laws.Found.{find-placed_new, find-placed_old, find-placed_else, found_at, Apart, put_at}
use Rattle.tree_row.specs.Slots.{Slot, kind_from, entry_in, entry_at, IsUsed, IsDirectorySlot, IsInRange, IsRootSlot}
use Rattle.tree_row.specs.Rows.{EncodesSlots}
use Rattle.row_plan.proofs.NewEntries.{same_entry}
use Rattle.row_plan.proofs.Removals.{keys, found_there, slot_of_key}

module _ (n : ℕ) (f g : ℕ → Slot) (t : Tree) (d : ℕ) (c : List ℕ) (into : ℕ) (name : List ℕ) (s p : ℕ) (enc : EncodesSlots n f t)
    (used : IsUsed n f s) (is : find t.entries d c ≡ Some (entry_at f s)) (free : find t.entries into name ≡ None)
    (directory : IsDirectorySlot n f p) (holds : (f p).node ≡ into) (here : g s ≡ record (f s) { parent = p; component = name })
    (short : length name ≤ LONGEST_COMPONENT) (kinds : (x : ℕ) → x ≢ s → (g x).kind ≡ (f x).kind) (same : (x : ℕ) → x < n → x ≢ s →
    (f x).kind ≢ 0 → g x ≡ f x) where
  abbrev after : List Entry
  after = placed d c into name t.entries

  abbrev new : Entry
  new = entry into name (entry_at f s).node (entry_at f s).kind

  keys_apart : Apart d c into name
  keys_apart x y = absurd (none-some _ (sym free ∙ (λ i. find t.entries (x i) (y i)) ∙ is))

  node_same : (x : ℕ) → IsDirectorySlot n f x → (g x).node ≡ (f x).node
  node_same x h = dite (ℕ_discrete x s) (λ e. ap (λ (z : ℕ). (g z).node) e ∙ ap (λ (z : Slot). z.node) here
      ∙ sym (ap (λ (z : ℕ). (f z).node) e))
      (λ o. ap (λ (z : Slot). z.node) (same x h.within o (λ e. absurd (let k = h.kind in omega arith))))

  kind_same : (x : ℕ) → (g x).kind ≡ (f x).kind
  kind_same x = dite (ℕ_discrete x s) (λ e. ap (λ (z : ℕ). (g z).kind) e ∙ ap (λ (z : Slot). z.kind) here
      ∙ sym (ap (λ (z : ℕ). (f z).kind) e)) (λ o. kinds x o)

  was_used : (x : ℕ) → IsUsed n g x → IsUsed n f x
  was_used x h = record { past_root = h.past_root; within = h.within; used = λ e. h.used (kind_same x ∙ e) }

  stays_used : (x : ℕ) → IsUsed n f x → IsUsed n g x
  stays_used x h = record { past_root = h.past_root; within = h.within; used = λ e. h.used (sym (kind_same x) ∙ e) }

  stays_directory : (x : ℕ) → IsDirectorySlot n f x → IsDirectorySlot n g x
  stays_directory x h = record { within = h.within; kind = kind_same x ∙ h.kind }

  was_entry : (x : ℕ) → x ≢ s → IsUsed n f x → entry_at g x ≡ entry_at f x
  was_entry x other h = same_entry f g x (same x h.within other h.used) (node_same (f x).parent (enc.in_directory x h))

  new_entry : entry_at g s ≡ new
  new_entry = (λ i. entry_in (here i) (g (here i).parent)) ∙ (λ i. entry ((node_same p directory ∙ holds) i) name (f s).node
      (kind_from (f s).kind (f s).text))

  found_new : find after into name ≡ Some new
  found_new = find-placed_new d c into name keys_apart t.entries free ∙ ap (put_at into name) is

  -- the entry of another slot has another key than the old one and the new one
  old_apart : (x : ℕ) → IsUsed n f x → x ≢ s → Apart d c (entry_at f x).of (entry_at f x).component
  old_apart x h other a b = other (slot_of_key n f t x s d c enc h used is a b)

  new_apart : (x : ℕ) → IsUsed n f x → Apart into name (entry_at f x).of (entry_at f x).component
  new_apart x h a b = absurd (none-some _ (sym free ∙ found_there n f t x into name enc h a b))

  there_after : (x : ℕ) → IsUsed n g x → find after (entry_at g x).of (entry_at g x).component ≡ Some (entry_at g x)
  there_after x h = dite (ℕ_discrete x s)
      (λ e. subst (λ (z : Entry). find after z.of z.component ≡ Some z) (sym (ap (entry_at g) e ∙ new_entry)) found_new)
      (λ other. let o = was_used x h in subst (λ (z : Entry). find after z.of z.component ≡ Some z) (sym (was_entry x other o))
      (find-placed_else d c into name keys_apart t.entries _ _ (old_apart x o other) (new_apart x o) ∙ enc.there x o))

  held_after : (d' : ℕ) (c' : List ℕ) (e : Entry) → find after d' c' ≡ Some e → (x : ℕ) × IsUsed n g x × (entry_at g x ≡ e)
  held_after d' c' e h = keys d c d' c'
      (λ same. absurd (none-some e (sym (find-placed_old d c into name keys_apart t.entries)
      ∙ (λ i. find after (sym same.0 i) (sym same.1 i)) ∙ h)))
      (λ apart. keys into name d' c'
      (λ same. (s, stays_used s used, new_entry ∙ same_Some new e (sym found_new ∙ (λ i. find after (sym same.0 i) (sym same.1 i)) ∙ h)))
      (λ new_key.
      let was : find t.entries d' c' ≡ Some e = sym (find-placed_else d c into name keys_apart t.entries d' c' apart new_key) ∙ h in
      let (x, o, at_x) = enc.held d' c' e was in
      let key = found_at t.entries d' c' e was in
      let own = found_at t.entries d c (entry_at f s) is in
      let other : x ≢ s = λ p. apart (sym key.0 ∙ ap (λ (z : Entry). z.of) (sym at_x ∙ ap (entry_at f) p) ∙ own.0)
      (sym key.1 ∙ ap (λ (z : Entry). z.component) (sym at_x ∙ ap (entry_at f) p) ∙ own.1) in
      (x, stays_used x o, was_entry x other o ∙ at_x)))

  not_new : (x : ℕ) → IsUsed n f x → x ≢ s → entry_at g x ≡ new → ⊥
  not_new x h other e = let w = sym (was_entry x other h) ∙ e in new_apart x h (ap (λ (z : Entry). z.of) w)
      (ap (λ (z : Entry). z.component) w)

  pub put : EncodesSlots n g record { entries = placed d c into name t.entries; next = t.next }
  put = record {
    root = subst (IsRootSlot n)
        (sym (same 0 enc.root.within (λ e. absurd (let a = used.past_root in omega arith))
        (λ e. absurd (let k = enc.root.kind in omega arith)))) enc.root;
    in_directory = λ x h. dite (ℕ_discrete x s)
        (λ e. subst (IsDirectorySlot n g) (sym (ap (λ (z : ℕ). (g z).parent) e ∙ ap (λ (z : Slot). z.parent) here))
        (stays_directory p directory))
        (λ other. let o = was_used x h in subst (IsDirectorySlot n g) (sym (ap (λ (z : Slot). z.parent) (same x o.within other o.used)))
        (stays_directory _ (enc.in_directory x o)));
    in_range = λ x h. dite (ℕ_discrete x s)
        (λ e. let r = enc.in_range s used in subst IsInRange (sym (ap g e ∙ here)) record {
          kind = r.kind;
          component = short;
          text =
              r.text;
          text_of_link = r.text_of_link;
        })
        (λ other. let o = was_used x h in subst IsInRange (sym (same x o.within other o.used)) (enc.in_range x o));
    there = there_after;
    held = held_after;
    once = λ x y hx hy alike. dite (ℕ_discrete x s)
        (λ xs. dite (ℕ_discrete y s) (λ ys. xs ∙ sym ys)
        (λ other. absurd (not_new y (was_used y hy) other (sym alike ∙ ap (entry_at g) xs ∙ new_entry))))
        (λ xo. dite (ℕ_discrete y s) (λ ys. absurd (not_new x (was_used x hx) xo (alike ∙ ap (entry_at g) ys ∙ new_entry)))
        (λ yo. enc.once x y (was_used x hx) (was_used y hy) (sym (was_entry x xo (was_used x hx)) ∙ alike
        ∙ was_entry y yo (was_used y hy))));
  }
