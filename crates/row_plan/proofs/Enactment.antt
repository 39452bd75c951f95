-- What an act makes of a tree, the slots of a row make of what they encode.
use Rattle.std.proofs.Common.{◌≡◌, ℕ, zero, suc, ◌+◌, ◌<◌, ◌≤◌, ◌≢◌, List, length, Some, None, Option, sym, refl, ap, ◌∙◌, subst, arith}
use Rattle.std.specs.Prelude.{IfSome, true}
use Rattle.std.specs.Option.{option_map}
use Rattle.names.specs.declared.limits.TheConstants.{LONGEST_COMPONENT}
use Rattle.directory_tree.specs.declared.node.Kind.TheVariants as kind
use Rattle.directory_tree.specs.declared.node.NodeKind.{NodeKind}
use Rattle.directory_tree.specs.Tree.{Tree, Entry, find, is_empty}
use Rattle.directory_tree.specs.Walk.{Spot}
use Rattle.directory_tree.specs.Walk.Spot.{Root, Held}
use Rattle.directory_tree.specs.Spots.{shape_of, node_at, kind_at, child_of}
use Rattle.directory_tree.specs.Apply.{entry, with_entry, dropped, moved, placed, longest_link_text}
use Rattle.std.proofs.lemmas.Option.{none-some, same_Some}
use Rattle.directory_tree.specs.laws.Found.{empty_none, find-without_same, find-without_other, without-none, Apart}
use Rattle.path_lookup.specs.World.{World}
use Rattle.tree_row.specs.Slots.{Slot, slot_at, kind_from, entry_at, IsUsed, IsFree, IsDirectorySlot}
use Rattle.tree_row.specs.Rows.{EncodesSlots}
use Rattle.tree_row.specs.Worlds.{spot_at, EncodesWorld}
use Rattle.tree_row.proofs.Slots.{held_spot, node_of}
use Rattle.change_checks.specs.declared.act.NewNode.{NewNode}
use Rattle.change_checks.specs.declared.act.NewNode.TheVariants as new
use Rattle.change_checks.specs.Act.{kind_of_new, FitsNode}
use Rattle.tree_row.specs.declared.look.RowEntry.{RowEntry}
use Rattle.row_rule.specs.declared.cell.Cell.{Cell}
use Rattle.row_rule.specs.Row.{write}
use Rattle.row_plan.specs.Leaves.{text_in, new_slot}
use Rattle.row_plan.specs.inner.Rows.{SetsSlot, FreesSlot, MovesSlot, SlotsEncode, moved_slot}
use Rattle.row_plan.proofs.SettledSlots.{other_stays}
use Rattle.row_plan.proofs.NewEntries.{same_entry}
use Rattle.row_plan.proofs.Encoding.{in_range_all, encodes_filled, encodes_freed, encodes_moved}

directory_code : (k : ℕ) (text : List ℕ) → shape_of (kind_from k text) ≡ kind.Directory → k ≡ 1
directory_code zero text h = absurd (cc h)
directory_code (suc zero) text h = refl
directory_code (suc (suc zero)) text h = absurd (cc h)
directory_code (suc (suc (suc n))) text h = absurd (cc h)

spot_directory : (n : ℕ) (f : ℕ → Slot) (t : Tree) (d : ℕ) → EncodesSlots n f t → d < n → shape_of (kind_at (spot_at f d))
    ≡ kind.Directory → IsDirectorySlot n f d
spot_directory n f t zero enc within h = record { within = within; kind = enc.root.kind }
spot_directory n f t (suc d) enc within h = record { within = within; kind = directory_code (f (suc d)).kind (f (suc d)).text h }

some_held : (o : Option Entry) (e : Entry) → option_map Held o ≡ Some (Held e) → o ≡ Some e
some_held None e h = absurd (cc h)
some_held (Some z) e h = cc h

none_held : (o : Option Entry) → option_map Held o ≡ None → o ≡ None
none_held None h = refl
none_held (Some z) h = absurd (cc h)

not_root : (o : Option Entry) → option_map Held o ≡ Some Root → ⊥
not_root None h = absurd (cc h)
not_root (Some z) h = absurd (cc h)

module _ (capacity : ℕ) (row : List ℕ) (w : World) (enc : EncodesWorld capacity row w) where
  abbrev slots : ℕ
  slots = capacity + 1

  abbrev f : ℕ → Slot
  f = slot_at row

  abbrev t : Tree
  t = w.tree

  bare : SlotsEncode capacity row t
  bare = record { long = enc.tree.long; slots = enc.tree.slots }

  pub node_is : (d : ℕ) → node_at (w.named d) ≡ (f d).node
  node_is d = ap node_at (enc.named d) ∙ node_of slots f t enc.tree.slots d

  pub directory_slot : (d : ℕ) → d < slots → shape_of (kind_at (w.named d)) ≡ kind.Directory → IsDirectorySlot slots f d
  directory_slot d within h = spot_directory slots f t d enc.tree.slots within
      (ap (λ (s : Spot). shape_of (kind_at s)) (sym (enc.named d)) ∙ h)

  -- an entry that is somewhere is not the root
  child_past : (d r : ℕ) (c : List ℕ) → child_of t (w.named d) c ≡ Some (w.named r) → r ≢ 0
  child_past d r c is e = not_root (find t.entries (node_at (w.named d)) c) (is ∙ ap (λ (z : ℕ). Some (w.named z)) e
      ∙ ap Some (enc.named 0))

  pub child_used : (d r : ℕ) (c : List ℕ) → r < slots → (f r).kind ≢ 0 → child_of t (w.named d) c ≡ Some (w.named r) → IsUsed slots f r
  child_used d r c within filled is = let past = child_past d r c is in record { past_root = omega arith; within = within; used = filled }

  pub held : (r : ℕ) → IsUsed slots f r → w.named r ≡ Held (entry_at f r)
  held r used = enc.named r ∙ held_spot f r used.past_root

  pub child_found : (d r : ℕ) (c : List ℕ) → IsUsed slots f r → child_of t (w.named d) c ≡ Some (w.named r) →
      find t.entries (node_at (w.named d)) c ≡ Some (entry_at f r)
  child_found d r c used is = some_held (find t.entries (node_at (w.named d)) c) (entry_at f r) (is ∙ ap Some (held r used))

  -- a directory that has no entry is no slot's
  childless : (r : ℕ) → IsUsed slots f r → (shape_of (kind_at (w.named r)) ≡ kind.Directory → is_empty t.entries (node_at (w.named r))
      ≡ true) → (x : ℕ) → IsUsed slots f x → (f x).parent ≢ r
  childless r used empty x h up =
      let k : (f r).kind ≡ 1 = ap (λ (z : ℕ). (f z).kind) (sym up) ∙ (enc.tree.slots.in_directory x h).kind in
      let shape : shape_of (kind_at (w.named r)) ≡ kind.Directory = ap (λ (s : Spot). shape_of (kind_at s)) (held r used)
      ∙ ap (λ (z : ℕ). shape_of (kind_from z (f r).text)) k in
      none-some (entry_at f x) (sym (empty_none t.entries (node_at (w.named r)) (f x).component (empty shape))
      ∙ ap (λ (z : ℕ). find t.entries z (f x).component) (node_is r ∙ ap (λ (z : ℕ). (f z).node) (sym up)) ∙ enc.tree.slots.there x h)

  pub enacts_new : (made : NodeKind) (node next s p : ℕ) (c after : List ℕ) → p < slots → find t.entries (node_at (w.named p)) c ≡ None →
      shape_of (kind_at (w.named p)) ≡ kind.Directory → IsFree slots f s
      → length c ≤ LONGEST_COMPONENT → length (text_in made) ≤ longest_link_text → SetsSlot row s (new_slot made node p c) after →
      SlotsEncode capacity after (with_entry t (entry (node_at (w.named p)) c node made) next)
  enacts_new made node next s p c after within none directory free short short_text sets =
      let e = node_is p in
      subst (λ (d : ℕ). SlotsEncode capacity after (with_entry t (entry d c node made) next)) (sym e)
      (encodes_filled capacity row t bare after made node next s p c (ap (λ (z : ℕ). find t.entries z c) (sym e) ∙ none) free
      (directory_slot p within directory) short short_text sets)

  pub enacts_removal : (d r : ℕ) (c after : List ℕ) → r < slots → (f r).kind ≢ 0 → child_of t (w.named d) c ≡ Some (w.named r) →
      (shape_of (kind_at (w.named r)) ≡ kind.Directory → is_empty t.entries (node_at (w.named r)) ≡ true)
      → FreesSlot row r after → SlotsEncode capacity after (dropped t (node_at (w.named d)) c)
  enacts_removal d r c after within filled is empty frees =
      let used = child_used d r c within filled is in
      encodes_freed capacity row t bare after r (node_at (w.named d)) c used (child_found d r c used is) (childless r used empty) frees

  -- an entry goes to a place where there is none
  enacts_free_move : (d s p : ℕ) (c name after : List ℕ) → p < slots → IsUsed slots f s → child_of t (w.named d) c ≡ Some (w.named s) →
      find t.entries (node_at (w.named p)) name ≡ None → shape_of (kind_at (w.named p)) ≡ kind.Directory
      → length name ≤ LONGEST_COMPONENT → SetsSlot row s (moved_slot (f s) p name) after →
      SlotsEncode capacity after (moved t (node_at (w.named d)) c (node_at (w.named p)) name)
  enacts_free_move d s p c name after within used is none directory short sets =
      let e = node_is p in
      let put = encodes_moved capacity row t bare after s p (node_at (w.named d)) c name used (child_found d s c used is)
      (ap (λ (z : ℕ). find t.entries z name) (sym e) ∙ none) (directory_slot p within directory) short sets in
      subst (λ (es : List Entry). SlotsEncode capacity after record {
        entries = placed (node_at (w.named d)) c (node_at (w.named p)) name es;
        next = t.next;
      }) (sym (without-none t.entries (node_at (w.named p)) name none))
      (subst (λ (z : ℕ). SlotsEncode capacity after record { entries = placed (node_at (w.named d)) c z name t.entries; next = t.next })
      (sym e) put)

  -- to a place where there is one, which is removed first
  module _ (d s p r : ℕ) (c name between after : List ℕ) (within : p < slots) (within_r : r < slots) (filled_r : (f r).kind ≢ 0)
      (used : IsUsed slots f s) (is : child_of t (w.named d) c ≡ Some (w.named s))
      (onto : child_of t (w.named p) name ≡ Some (w.named r)) (other : node_at (w.named r) ≢ node_at (w.named s))
      (empty : shape_of (kind_at (w.named r)) ≡ kind.Directory → is_empty t.entries (node_at (w.named r)) ≡ true)
      (directory : shape_of (kind_at (w.named p)) ≡ kind.Directory) (short : length name ≤ LONGEST_COMPONENT)
      (frees : FreesSlot row r between) (sets : SetsSlot between s (moved_slot (slot_at between s) p name) after) where
    abbrev from : ℕ
    from = node_at (w.named d)

    abbrev into : ℕ
    into = node_at (w.named p)

    abbrev h : ℕ → Slot
    h = slot_at between

    used_r : IsUsed slots f r
    used_r = child_used p r name within_r filled_r onto

    found_r : find t.entries into name ≡ Some (entry_at f r)
    found_r = child_found p r name used_r onto

    found_s : find t.entries from c ≡ Some (entry_at f s)
    found_s = child_found d s c used is

    stays : (x : ℕ) → x ≢ r → x < slots → (f x).kind ≢ 0 → h x ≡ f x
    stays x apart inside filled = let k = in_range_all slots f t enc.tree.slots x inside filled in
        other_stays row r between frees.others x apart k.0 k.1

    stays_directory : (x : ℕ) → x ≢ r → IsDirectorySlot slots f x → h x ≡ f x
    stays_directory x apart x_is = stays x apart x_is.within (λ e. absurd (let k = x_is.kind in omega arith))

    apart_s : s ≢ r
    apart_s e = other (ap (λ (z : ℕ). node_at (w.named z)) (sym e))

    -- the directory of the new place is not the one that is removed, which has no entry
    apart_p : p ≢ r
    apart_p e = none-some (entry_at f r)
        (sym (empty_none t.entries into name (subst (λ (z : ℕ). is_empty t.entries (node_at (w.named z)) ≡ true) (sym e)
        (empty (subst (λ (z : ℕ). shape_of (kind_at (w.named z)) ≡ kind.Directory) e directory)))) ∙ found_r)

    p_is : IsDirectorySlot slots f p
    p_is = directory_slot p within directory

    same_p : h p ≡ f p
    same_p = stays_directory p apart_p p_is

    same_s : h s ≡ f s
    same_s = stays s apart_s used.within used.used

    used_between : IsUsed slots h s
    used_between = record {
      past_root = used.past_root;
      within = used.within;
      used =
          λ e. used.used (sym (ap (λ (z : Slot). z.kind) same_s) ∙ e);
    }

    entry_between : entry_at h s ≡ entry_at f s
    entry_between = same_entry f h s same_s
        (ap (λ (z : Slot). z.node) (stays_directory (f s).parent (childless r used_r empty s used) (enc.tree.slots.in_directory s used)))

    -- the two entries are at different places
    places_apart : Apart into name from c
    places_apart a b =
        let e : entry_at f s ≡ entry_at f r = same_Some (entry_at f s) (entry_at f r)
        (sym found_s ∙ (λ i. find t.entries (a i) (b i)) ∙ found_r) in
        other (node_is r ∙ ap (λ (z : Entry). z.node) (sym e) ∙ sym (node_is s))

    pub enacts_move_onto : SlotsEncode capacity after (moved t from c into name)
    enacts_move_onto =
        let gone = dropped t into name in
        let encodes_between = enacts_removal p r name between within_r filled_r onto empty frees in
        let found : find gone.entries from c ≡ Some (entry_at h s) = find-without_other t.entries into name from c places_apart ∙ found_s
        ∙ ap Some (sym entry_between) in
        let node_p : (h p).node ≡ into = ap (λ (z : Slot). z.node) same_p ∙ sym (node_is p) in
        let none : find gone.entries (h p).node name ≡ None = ap (λ (z : ℕ). find gone.entries z name) node_p
        ∙ find-without_same t.entries into name in
        let directory_between : IsDirectorySlot slots h p =
        record { within = within; kind = ap (λ (z : Slot). z.kind) same_p ∙ p_is.kind } in
        subst (λ (z : ℕ). SlotsEncode capacity after record { entries = placed from c z name gone.entries; next = t.next }) node_p
        (encodes_moved capacity between gone encodes_between after s p from c name used_between found none directory_between short sets)

  -- whatever was at the new place
  pub enacts_move : (d s p : ℕ) (c name : List ℕ) (replaced : Option RowEntry) (plan : List Cell) → p < slots → s < slots → (f s).kind ≢ 0
      → IfSome replaced (λ e. (e.slot < slots) × ((f e.slot).kind ≢ 0)) → child_of t (w.named d) c ≡ Some (w.named s)
      → child_of t (w.named p) name ≡ option_map (λ (e : RowEntry). w.named e.slot) replaced →
      IfSome replaced (λ e. node_at (w.named e.slot) ≢ node_at (w.named s)) →
      IfSome replaced (λ e. shape_of (kind_at (w.named e.slot)) ≡ kind.Directory → is_empty t.entries (node_at (w.named e.slot))
      ≡ true) → shape_of (kind_at (w.named p)) ≡ kind.Directory
      → length name ≤ LONGEST_COMPONENT → MovesSlot row plan s p name (option_map (λ (e : RowEntry). e.slot) replaced) →
      SlotsEncode capacity (write row plan) (moved t (node_at (w.named d)) c (node_at (w.named p)) name)
  enacts_move d s p c name None plan within within_s filled known is onto other empty directory short moves =
      let same : moves.between ≡ row = moves.frees in
      let sets : SetsSlot row s (moved_slot (f s) p name) (write row plan) =
      subst (λ (z : List ℕ). SetsSlot z s (moved_slot (slot_at z s) p name) (write row plan)) same moves.moves in
      enacts_free_move d s p c name (write row plan) within (child_used d s c within_s filled is) is
      (none_held (find t.entries (node_at (w.named p)) name) onto) directory short sets
  enacts_move d s p c name (Some e) plan within within_s filled known is onto other empty directory short moves =
      enacts_move_onto d s p e.slot c name moves.between (write row plan) within known.0 known.1 (child_used d s c within_s filled is) is
      onto other empty directory short moves.frees moves.moves

-- the text of a new node's slot is within the limit
pub fits_node : (node : NewNode) → FitsNode node → length (text_in (kind_of_new node)) ≤ longest_link_text
fits_node new.Directory fits = omega arith
fits_node new.File fits = omega arith
fits_node (new.Link text) fits = fits
