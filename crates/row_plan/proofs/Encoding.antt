-- What the slots of a row encode after one was filled or freed, or its entry moved.
use Rattle.std.proofs.Common.{◌≡◌, ℕ, ◌+◌, ◌<◌, ◌≤◌, ◌≢◌, List, length, Some, None, sym, refl, ◌∙◌, subst, arith}
use mathlib.Core.Logic.{dite}
use native.Mathlib.Decide.{ℕ_discrete}
use Rattle.names.specs.declared.limits.TheConstants.{LONGEST_COMPONENT}
use Rattle.directory_tree.specs.declared.node.NodeKind.{NodeKind}
use Rattle.directory_tree.specs.Tree.{Tree, find}
use Rattle.directory_tree.specs.Apply.{entry, with_entry, dropped, placed, longest_link_text}
use Rattle.tree_row.specs.Slots.{Slot, slot_at, entry_at, IsUsed, IsFree, IsDirectorySlot}
use Rattle.tree_row.specs.Rows.{EncodesSlots}
use Rattle.row_plan.specs.Leaves.{text_in, new_slot}
use Rattle.row_plan.specs.inner.Rows.{KeepsOthers, SetsSlot, FreesSlot, SlotsEncode, moved_slot}
use Rattle.row_plan.proofs.SettledSlots.{other_stays, other_kind}
use Rattle.row_plan.proofs.NewEntries.{made}
use Rattle.row_plan.proofs.Removals.{removed}
use Rattle.row_plan.proofs.Placement.{put}

-- the lengths of every slot that isn't free are within the limits
pub in_range_all : (n : ℕ) (f : ℕ → Slot) (t : Tree) → EncodesSlots n f t → (x : ℕ) → x < n → (f x).kind ≢ 0 →
    (length (f x).component ≤ LONGEST_COMPONENT) × (length (f x).text ≤ longest_link_text)
in_range_all n f t enc x within filled = dite (ℕ_discrete x 0)
    (λ e. subst (λ (z : ℕ). (length (f z).component ≤ LONGEST_COMPONENT) × (length (f z).text ≤ longest_link_text)) (sym e) (
      subst (λ (z : List ℕ). length z ≤ LONGEST_COMPONENT) (sym enc.root.component) (omega arith),
      subst (λ (z : List ℕ). length z ≤ longest_link_text) (sym enc.root.text) (omega arith),
    ))
    (λ other. let r = enc.in_range x record { past_root = omega arith; within = within; used = filled } in (r.component, r.text))

module _ (capacity : ℕ) (row : List ℕ) (t : Tree) (enc : SlotsEncode capacity row t) (after : List ℕ) where
  abbrev slots : ℕ
  slots = capacity + 1

  abbrev f : ℕ → Slot
  f = slot_at row

  abbrev g : ℕ → Slot
  g = slot_at after

  kinds : (s : ℕ) → KeepsOthers row s after → (x : ℕ) → x ≢ s → (g x).kind ≡ (f x).kind
  kinds s others x other = other_kind row s after others x other

  same : (s : ℕ) → KeepsOthers row s after → (x : ℕ) → x < slots → x ≢ s → (f x).kind ≢ 0 → g x ≡ f x
  same s others x within other filled = let r = in_range_all slots f t enc.slots x within filled in
      other_stays row s after others x other r.0 r.1

  pub encodes_filled : (kind : NodeKind) (node next s p : ℕ) (c : List ℕ) → find t.entries (f p).node c ≡ None → IsFree slots f s →
      IsDirectorySlot slots f p → length c ≤ LONGEST_COMPONENT → length (text_in kind) ≤ longest_link_text
      → SetsSlot row s (new_slot kind node p c) after → SlotsEncode capacity after (with_entry t (entry (f p).node c node kind) next)
  encodes_filled kind node next s p c none free directory short short_text sets = record {
    long = sets.long ∙ enc.long;
    slots = made slots f g t kind node next (f p).node c s p enc.slots none free.past_root free.within free.free directory refl short
        short_text sets.here (kinds s sets.others) (same s sets.others);
  }

  pub encodes_freed : (r d : ℕ) (c : List ℕ) → IsUsed slots f r → find t.entries d c ≡ Some (entry_at f r) →
      ((x : ℕ) → IsUsed slots f x → (f x).parent ≢ r)
      → FreesSlot row r after → SlotsEncode capacity after (dropped t d c)
  encodes_freed r d c used found childless frees = record {
    long = frees.long ∙ enc.long;
    slots = removed slots f g t d c r enc.slots used found childless frees.here (kinds r frees.others) (same r frees.others);
  }

  pub encodes_moved : (s p d : ℕ) (c : List ℕ) (name : List ℕ) → IsUsed slots f s → find t.entries d c ≡ Some (entry_at f s) →
      find t.entries (f p).node name ≡ None → IsDirectorySlot slots f p → length name ≤ LONGEST_COMPONENT
      → SetsSlot row s (moved_slot (f s) p name) after → SlotsEncode capacity after record {
        entries = placed d c (f p).node name t.entries;
        next = t.next;
      }
  encodes_moved s p d c name used found none directory short sets = record {
    long = sets.long ∙ enc.long;
    slots = put slots f g t d c (f p).node name s p enc.slots used found none directory refl sets.here short (kinds s sets.others)
        (same s sets.others);
  }
