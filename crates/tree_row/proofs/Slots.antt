-- What slots that encode a tree say about it.
use Rattle.std.proofs.Common.{◌≡◌, ℕ, zero, suc, ◌<◌, ◌≢◌, Bool, true, List, Some, None, Option, sym, refl, ap, ◌∙◌, subst, arith, eq-eqb}
use Rattle.std.proofs.Common.{ne_eqb}
use Rattle.std.specs.Prelude.{if◌then◌else◌}
use Rattle.std.specs.Option.{option_map}
use mathlib.Core.Logic.{dite}
use native.Mathlib.Decide.{ℕ_discrete}
use Rattle.directory_tree.specs.declared.node.Kind.TheVariants as kind
use Rattle.directory_tree.specs.Tree.{Tree, Entry, WellFormed, root, find, own_entry, is_directory}
use Rattle.directory_tree.specs.Walk.{Spot, spot_of}
use Rattle.directory_tree.specs.Walk.Spot.{Root, Held}
use Rattle.directory_tree.specs.Spots.{node_at, kind_at, shape_of, child_of, directory_of}
use Rattle.directory_tree.specs.laws.Found.{found_at}
use Rattle.directory_tree.proofs.Presence.{placed_at}
use Rattle.tree_row.specs.Slots.{Slot, kind_from, entry_at, IsUsed, IsChildSlot, IsDirectorySlot}
use Rattle.tree_row.specs.Rows.{EncodesSlots}
use Rattle.tree_row.specs.Worlds.{spot_at}

-- a slot that isn't the root's stands for an entry
pub held_spot : (f : ℕ → Slot) (s : ℕ) → 0 < s → spot_at f s ≡ Held (entry_at f s)
held_spot f zero l = absurd (omega arith)
held_spot f (suc s) l = refl

module _ (n : ℕ) (f : ℕ → Slot) (t : Tree) (enc : EncodesSlots n f t) where
  pub node_of : (s : ℕ) → node_at (spot_at f s) ≡ (f s).node
  node_of zero = sym enc.root.node
  node_of (suc s) = refl

  pub used_past : (s : ℕ) → s < n → (f s).kind ≢ 0 → 0 < s → IsUsed n f s
  used_past s within filled past = record { past_root = past; within = within; used = filled }

  pub found_there : (s d : ℕ) (c : List ℕ) → IsUsed n f s → (f (f s).parent).node ≡ d → (f s).component ≡ c →
      find t.entries d c ≡ Some (entry_at f s)
  found_there s d c used up named = subst (λ (z : ℕ). find t.entries z c ≡ Some (entry_at f s)) up
      (subst (λ (z : List ℕ). find t.entries (f (f s).parent).node z ≡ Some (entry_at f s)) named (enc.there s used))

  pub child_found : (d s : ℕ) (c : List ℕ) → IsChildSlot n f d c s → child_of t (spot_at f d) c ≡ Some (spot_at f s)
  child_found d s c h =
      ap (option_map Held) (found_there s (node_at (spot_at f d)) c h.used (ap (λ (z : ℕ). (f z).node) h.under ∙ sym (node_of d)) h.named)
      ∙ ap Some (sym (held_spot f s h.used.past_root))

module _ (n : ℕ) (f : ℕ → Slot) (t : Tree) (well : WellFormed t) (enc : EncodesSlots n f t) where
  directory_kind : (s : ℕ) → (f s).kind ≡ 1 → is_directory (entry_at f s).kind ≡ true
  directory_kind s h = ap (λ (z : ℕ). is_directory (kind_from z (f s).text)) h

  kind_directory : (k : ℕ) (text : List ℕ) → is_directory (kind_from k text) ≡ true → k ≡ 1
  kind_directory zero text h = absurd (cc h)
  kind_directory (suc zero) text h = refl
  kind_directory (suc (suc zero)) text h = absurd (cc h)
  kind_directory (suc (suc (suc n))) text h = absurd (cc h)

  -- a used slot's node is past the root's
  pub past : (x : ℕ) → IsUsed n f x → 1 < (f x).node
  past x used = (well.low _ _ _ (enc.there x used)).0

  directory_used : (x : ℕ) → IsDirectorySlot n f x → x ≢ 0 → IsUsed n f x
  directory_used x h other = record { past_root = omega arith; within = h.within; used = λ e. absurd (let k = h.kind in omega arith) }

  -- a directory's slot is the only one of its node
  pub one_directory : (p x : ℕ) → p < n → (f p).kind ≢ 0 → IsDirectorySlot n f x → (f x).node ≡ (f p).node → x ≡ p
  one_directory p x within filled hx same = dite (ℕ_discrete x 0)
      (λ x0. dite (ℕ_discrete p 0) (λ p0. x0 ∙ sym p0)
      (λ p1. let a = past p (used_past n f t enc p within filled (omega arith)) in let b : (f x).node ≡ 1 = ap (λ (z : ℕ). (f z).node) x0
      ∙ enc.root.node in absurd (omega arith)))
      (λ x1. let ux = directory_used x hx x1 in dite (ℕ_discrete p 0)
      (λ p0. let a = past x ux in let b : (f p).node ≡ 1 = ap (λ (z : ℕ). (f z).node) p0 ∙ enc.root.node in absurd (omega arith))
      (λ p1. let up = used_past n f t enc p within filled (omega arith) in
      enc.once x p ux up (well.one_entry _ _ _ _ _ _ (enc.there x ux) (enc.there p up) same (directory_kind x hx.kind))))

  pub child_missing : (d : ℕ) (c : List ℕ) → d < n → (f d).kind ≢ 0 → ((s : ℕ) → ¬ (IsChildSlot n f d c s)) →
      child_of t (spot_at f d) c ≡ None
  child_missing d c within filled none =
      elim (find t.entries (node_at (spot_at f d)) c) as (λ (o : Option Entry). find t.entries (node_at (spot_at f d)) c ≡ o →
      option_map Held o ≡ None) [
        | None ↦ λ is. refl
        | Some e ↦ λ is.
            let (s, used, at_s) = enc.held (node_at (spot_at f d)) c e is in
            let key = found_at t.entries (node_at (spot_at f d)) c e is in
            let up : (f (f s).parent).node ≡ (f d).node = ap (λ (z : Entry). z.of) at_s ∙ key.0 ∙ node_of n f t enc d in
            let named : (f s).component ≡ c = ap (λ (z : Entry). z.component) at_s ∙ key.1 in
            absurd (none s record { used = used; under = one_directory d _ within filled (enc.in_directory s used) up; named = named })
      ] refl

  -- a directory's slot stands for the spot of its node
  pub directory_spot : (p : ℕ) → IsDirectorySlot n f p → spot_of t (f p).node ≡ spot_at f p
  directory_spot zero h = ap (λ (b : Bool). if b then Root else elim (own_entry t.entries (f 0).node) as (λ _. Spot)
      [ None ↦ Root | Some e ↦ Held e ]) (eq-eqb (f 0).node root enc.root.node)
  directory_spot (suc p) h =
      let used = directory_used (suc p) h (λ e. absurd (omega arith)) in
      ap (λ (b : Bool). if b then Root else elim (own_entry t.entries (f (suc p)).node) as (λ _. Spot) [ None ↦ Root | Some e ↦ Held e ])
      (ne_eqb (f (suc p)).node root (λ e. let a = past (suc p) used in absurd (omega arith)))
      ∙ ap (λ (o : Option Entry). elim o as (λ _. Spot) [ None ↦ Root | Some e ↦ Held e ]) (placed_at t well _ _ _ (enc.there (suc p) used)
      (directory_kind (suc p) h.kind))

  pub parent_is : (s : ℕ) → IsUsed n f s → directory_of t (spot_at f s) ≡ Some (spot_at f (f s).parent)
  parent_is s used = ap (directory_of t) (held_spot f s used.past_root) ∙ ap Some (directory_spot (f s).parent (enc.in_directory s used))

pub shape_1 : (f : ℕ → Slot) (s : ℕ) → 0 < s → (f s).kind ≡ 1 → shape_of (kind_at (spot_at f s)) ≡ kind.Directory
shape_1 f s past h = ap (λ (z : Spot). shape_of (kind_at z)) (held_spot f s past) ∙ ap (λ (z : ℕ). shape_of (kind_from z (f s).text)) h

pub shape_2 : (f : ℕ → Slot) (s : ℕ) → 0 < s → (f s).kind ≡ 2 → shape_of (kind_at (spot_at f s)) ≡ kind.File
shape_2 f s past h = ap (λ (z : Spot). shape_of (kind_at z)) (held_spot f s past) ∙ ap (λ (z : ℕ). shape_of (kind_from z (f s).text)) h

pub shape_3 : (f : ℕ → Slot) (s : ℕ) → 0 < s → (f s).kind ≡ 3 → shape_of (kind_at (spot_at f s)) ≡ kind.Link
shape_3 f s past h = ap (λ (z : Spot). shape_of (kind_at z)) (held_spot f s past) ∙ ap (λ (z : ℕ). shape_of (kind_from z (f s).text)) h
