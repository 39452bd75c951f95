-- A new entry in a free slot.
use Rattle.std.proofs.Common.{◌≡◌, ℕ, ◌<◌, ◌≤◌, ◌≢◌, Bool, true, false, List, [], ◌∷◌, ◌++◌, length, Some, None, Option, sym, refl, ap}
use Rattle.std.proofs.Common.{◌∙◌, subst, arith}
use Rattle.std.specs.Prelude.{if◌then◌else◌}
use mathlib.Core.Logic.{dite}
use native.Mathlib.Decide.{ℕ_discrete}
use Rattle.names.specs.declared.limits.TheConstants.{LONGEST_COMPONENT}
use Rattle.directory_tree.specs.declared.node.NodeKind.{NodeKind}
use Rattle.directory_tree.specs.declared.node.NodeKind.TheVariants.{Directory, File, Link}
use Rattle.directory_tree.specs.Tree.{Tree, Entry, find, is_at}
use Rattle.directory_tree.specs.Apply.{entry, with_entry, longest_link_text}
use Rattle.std.proofs.lemmas.Option.{none-some, same_Some}
use Rattle.directory_tree.specs.laws.Found.{find-append_old, find-append_new, is_at-same}
use Rattle.tree_row.specs.Slots.{Slot, kind_from, entry_in, entry_at, IsUsed, IsDirectorySlot, IsInRange, IsRootSlot}
use Rattle.tree_row.specs.Rows.{EncodesSlots}
use Rattle.row_plan.specs.Leaves.{code_of, text_in, new_slot}

kind_back : (k : NodeKind) → kind_from (code_of k) (text_in k) ≡ k
kind_back Directory = refl
kind_back File = refl
kind_back (Link text) = refl

pub code_used : (k : NodeKind) → code_of k ≢ 0
code_used Directory e = absurd (omega arith)
code_used File e = absurd (omega arith)
code_used (Link text) e = absurd (omega arith)

code_small : (k : NodeKind) → code_of k ≤ 3
code_small Directory = omega arith
code_small File = omega arith
code_small (Link text) = omega arith

no_text : (k : NodeKind) → code_of k ≢ 3 → text_in k ≡ []
no_text Directory other = refl
no_text File other = refl
no_text (Link text) other = absurd (other refl)

pub same_entry : (f g : ℕ → Slot) (x : ℕ) → g x ≡ f x → (g (f x).parent).node ≡ (f (f x).parent).node → entry_at g x ≡ entry_at f x
same_entry f g x own above = (λ i. entry_in (own i) (g (own i).parent))
    ∙ (λ i. entry (above i) (f x).component (f x).node (kind_from (f x).kind (f x).text))

module _ (n : ℕ) (f g : ℕ → Slot) (t : Tree) (kind : NodeKind) (node next d : ℕ) (c : List ℕ) (s p : ℕ) (enc : EncodesSlots n f t)
    (free : find t.entries d c ≡ None)
    (past : 0 < s) (within : s < n) (empty : (f s).kind ≡ 0) (directory : IsDirectorySlot n f p) (holds : (f p).node ≡ d)
    (short : length c ≤ LONGEST_COMPONENT) (short_text : length (text_in kind) ≤ longest_link_text)
    (here : g s ≡ new_slot kind node p c) (kinds : (x : ℕ) → x ≢ s → (g x).kind ≡ (f x).kind) (same : (x : ℕ) → x < n → x ≢ s →
    (f x).kind ≢ 0 → g x ≡ f x) where
  abbrev new : Entry
  new = entry d c node kind

  -- a used slot of the old row, and a directory of it, is not the new slot
  apart : (x : ℕ) → (f x).kind ≢ 0 → x ≢ s
  apart x used e = used (ap (λ (z : ℕ). (f z).kind) e ∙ empty)

  directory_filled : (x : ℕ) → IsDirectorySlot n f x → (f x).kind ≢ 0
  directory_filled x h e = absurd (let k = h.kind in omega arith)

  directory_same : (x : ℕ) → IsDirectorySlot n f x → g x ≡ f x
  directory_same x h = same x h.within (apart x (directory_filled x h)) (directory_filled x h)

  used_same : (x : ℕ) → IsUsed n f x → g x ≡ f x
  used_same x h = same x h.within (apart x h.used) h.used

  old_entry : (x : ℕ) → IsUsed n f x → entry_at g x ≡ entry_at f x
  old_entry x h = same_entry f g x (used_same x h) (ap (λ (z : Slot). z.node) (directory_same (f x).parent (enc.in_directory x h)))

  old_used : (x : ℕ) → IsUsed n g x → x ≢ s → IsUsed n f x
  old_used x h other = record { past_root = h.past_root; within = h.within; used = λ e. h.used (kinds x other ∙ e) }

  still_used : (x : ℕ) → IsUsed n f x → IsUsed n g x
  still_used x h = record {
    past_root = h.past_root;
    within = h.within;
    used =
        λ e. h.used (sym (ap (λ (z : Slot). z.kind) (used_same x h)) ∙ e);
  }

  still_directory : (x : ℕ) → IsDirectorySlot n f x → IsDirectorySlot n g x
  still_directory x h = record { within = h.within; kind = ap (λ (z : Slot). z.kind) (directory_same x h) ∙ h.kind }

  new_entry : entry_at g s ≡ new
  new_entry = (λ i. entry_in (here i) (g (here i).parent))
      ∙ (λ i. entry_in (new_slot kind node p c) (directory_same p directory i))
      ∙ (λ i. entry (holds i) c node (kind_back kind i))

  abbrev after : List Entry
  after = t.entries ++ new ∷ []

  found_new : find after d c ≡ Some new
  found_new = find-append_new t.entries new d c free ∙ ap (λ (b : Bool). if b then Some new else None) (is_at-same d c new refl refl)

  old_is_not_new : (x : ℕ) → IsUsed n f x → entry_at g x ≡ new → ⊥
  old_is_not_new x h e =
      let was : entry_at f x ≡ new = sym (old_entry x h) ∙ e in
      let found : find t.entries d c ≡ Some new = subst (λ (z : Entry). find t.entries z.of z.component ≡ Some z) was (enc.there x h) in
      absurd (none-some new (sym free ∙ found))

  used_new : IsUsed n g s
  used_new = record { past_root = past; within = within; used = λ e. code_used kind (sym (ap (λ (z : Slot). z.kind) here) ∙ e) }

  held_after : (d' : ℕ) (c' : List ℕ) (e : Entry) → find after d' c' ≡ Some e → (x : ℕ) × IsUsed n g x × (entry_at g x ≡ e)
  held_after d' c' e h =
      elim (find t.entries d' c') as (λ (o : Option Entry). find t.entries d' c' ≡ o → (x : ℕ) × IsUsed n g x × (entry_at g x ≡ e)) [
        | Some z ↦ λ is.
            let same_z : z ≡ e = same_Some z e (sym (find-append_old t.entries new d' c' z is) ∙ h) in
            let (x, used, at_x) = enc.held d' c' z is in
            (x, still_used x used, old_entry x used ∙ at_x ∙ same_z)
        | None ↦ λ is. elim (is_at d' c' new) as (λ (b : Bool). (if b then Some new else None) ≡ Some e → (x : ℕ) × IsUsed n g x
            × (entry_at g x ≡ e)) [
              | true ↦ λ q. (s, used_new, new_entry ∙ same_Some new e q)
              | false ↦ λ q. absurd (none-some e q)
            ] (sym (find-append_new t.entries new d' c' is) ∙ h)
      ] refl

  root_directory : IsDirectorySlot n f 0
  root_directory = record { within = enc.root.within; kind = enc.root.kind }

  pub made : EncodesSlots n g (with_entry t new next)
  made = record {
    root = subst (IsRootSlot n) (sym (directory_same 0 root_directory)) enc.root;
    in_directory = λ x h. dite (ℕ_discrete x s)
        (λ e. subst (IsDirectorySlot n g) (sym (ap (λ (z : ℕ). (g z).parent) e ∙ ap (λ (z : Slot). z.parent) here))
        (still_directory p directory))
        (λ other. let o = old_used x h other in subst (IsDirectorySlot n g) (sym (ap (λ (z : Slot). z.parent) (used_same x o)))
        (still_directory _ (enc.in_directory x o)));
    in_range = λ x h. dite (ℕ_discrete x s)
        (λ e. subst IsInRange (sym (ap g e ∙ here)) record {
          kind = code_small kind;
          component = short;
          text = short_text;
          text_of_link =
              no_text kind;
        })
        (λ other. let o = old_used x h other in subst IsInRange (sym (used_same x o)) (enc.in_range x o));
    there = λ x h. dite (ℕ_discrete x s)
        (λ e. subst (λ (z : Entry). find after z.of z.component ≡ Some z) (sym (ap (entry_at g) e ∙ new_entry)) found_new)
        (λ other. let o = old_used x h other in subst (λ (z : Entry). find after z.of z.component ≡ Some z) (sym (old_entry x o))
        (find-append_old t.entries new _ _ _ (enc.there x o)));
    held = λ d' c' e h. held_after d' c' e h;
    once = λ x y hx hy alike. dite (ℕ_discrete x s)
        (λ xs. dite (ℕ_discrete y s) (λ ys. xs ∙ sym ys)
        (λ other. absurd (old_is_not_new y (old_used y hy other) (sym alike ∙ ap (entry_at g) xs ∙ new_entry))))
        (λ xo. dite (ℕ_discrete y s) (λ ys. absurd (old_is_not_new x (old_used x hx xo) (alike ∙ ap (entry_at g) ys ∙ new_entry)))
        (λ yo. let ox = old_used x hx xo in let oy = old_used y hy yo in
        enc.once x y ox oy (sym (old_entry x ox) ∙ alike ∙ old_entry y oy)));
  }
