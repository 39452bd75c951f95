-- What the words that were read say about the worlds that are seen.
use Rattle.std.proofs.Common.{◌≡◌, ℕ, zero, suc, ◌+◌, ◌*◌, ◌/◌, ◌%◌, ◌<◌, ◌≤◌, ◌≢◌, List, [], length, Some, None, sym, ap, ◌∙◌, subst}
use Rattle.std.proofs.Common.{arith, true≢false}
use Rattle.std.specs.Prelude.{slice_index}
use Rattle.directory_tree.specs.declared.node.NodeKind.TheVariants.{Link}
use Rattle.directory_tree.specs.declared.node.Kind.TheVariants as kind
use Rattle.directory_tree.specs.Walk.{Spot}
use Rattle.directory_tree.specs.Walk.Spot.{Root, Held}
use Rattle.directory_tree.specs.Spots.{node_at, kind_at, component_at, shape_of, child_of, directory_of}
use Rattle.directory_tree.specs.Components.{is_filled}
use Rattle.path_lookup.specs.World.{World}
use Rattle.tree_row.specs.Slots.{slot_at, text_at, kind_from, entry_at, IsUsed, IsChildSlot, IsDirectorySlot}
use Rattle.tree_row.specs.Search.{InEncoding, TellsFound, EncodesNone}
use Rattle.tree_row.specs.Worlds.{spot_at, EncodesWorld, SeesBy, Knows, Fewer, Reads}
use Rattle.tree_row.proofs.Bytes.{length-text}
use Rattle.tree_row.proofs.Slots as slots

pub length_differs : (capacity : ℕ) (row : List ℕ) (d s : ℕ) (c : List ℕ) (lengths : ℕ) → slice_index row (164 * s + 3) ≡ lengths →
    lengths % 65536 ≢ length c → IsChildSlot (capacity + 1) (slot_at row) d c s → ⊥
length_differs capacity row d s c lengths is other h =
    other (ap (λ (z : ℕ). z % 65536) (sym is) ∙ sym (length-text row (164 * s + 4) (slice_index row (164 * s + 3) % 65536))
    ∙ ap length h.named)

pub too_long : (capacity : ℕ) (row : List ℕ) (w : World) (d s : ℕ) (c : List ℕ) → EncodesWorld capacity row w → 255 < length c →
    IsChildSlot (capacity + 1) (slot_at row) d c s → ⊥
too_long capacity row w d s c enc long h = let a = (enc.tree.slots.in_range s h.used).component in let b = ap length h.named in
    absurd (omega arith)

module _ (capacity : ℕ) (row : List ℕ) (w : World) (enc : EncodesWorld capacity row w) where
  pub root_named : w.named 0 ≡ Root
  root_named = enc.named 0

  pub seen_child : (d s : ℕ) (c : List ℕ) → IsChildSlot (capacity + 1) (slot_at row) d c s → child_of w.tree (w.named d) c
      ≡ Some (w.named s)
  seen_child d s c h = ap (λ (z : Spot). child_of w.tree z c) (enc.named d) ∙ slots.child_found (capacity + 1) (slot_at row) w.tree
      enc.tree.slots d s c h ∙ ap Some (sym (enc.named s))

  -- an entry is in one slot
  pub one_child : (d s r : ℕ) (c : List ℕ) → IsChildSlot (capacity + 1) (slot_at row) d c s →
      IsChildSlot (capacity + 1) (slot_at row) d c r → s ≡ r
  one_child d s r c h k =
      let f = slot_at row in
      let there = slots.found_there (capacity + 1) f w.tree enc.tree.slots in
      let one = there s (f d).node c h.used (ap (λ (z : ℕ). (f z).node) h.under) h.named in
      let other = there r (f d).node c k.used (ap (λ (z : ℕ). (f z).node) k.under) k.named in
      enc.tree.slots.once s r h.used k.used (cc (sym one ∙ other))

  pub seen_no_child : (d : ℕ) (c : List ℕ) → d < capacity + 1 → (slot_at row d).kind ≢ 0 →
      ((s : ℕ) → ¬ (IsChildSlot (capacity + 1) (slot_at row) d c s)) → child_of w.tree (w.named d) c ≡ None
  seen_no_child d c within filled none = ap (λ (z : Spot). child_of w.tree z c) (enc.named d) ∙ slots.child_missing (capacity + 1)
      (slot_at row) w.tree w.sound enc.tree.slots d c within filled none

  pub seen_node : (s node : ℕ) → slice_index row (164 * s + 1) ≡ node → node_at (w.named s) ≡ node
  seen_node s node is = ap node_at (enc.named s) ∙ slots.node_of (capacity + 1) (slot_at row) w.tree enc.tree.slots s ∙ is

  used : (s : ℕ) → s < capacity + 1 → (slot_at row s).kind ≢ 0 → s ≢ 0 → IsUsed (capacity + 1) (slot_at row) s
  used s within filled past = record { past_root = omega arith; within = within; used = filled }

  pub seen_parent : (s p : ℕ) → s < capacity + 1 → (slot_at row s).kind ≢ 0 → s ≢ 0 → slice_index row (164 * s + 2) ≡ p →
      directory_of w.tree (w.named s) ≡ Some (w.named p)
  seen_parent s p within filled past is =
      ap (directory_of w.tree) (enc.named s) ∙ slots.parent_is (capacity + 1) (slot_at row) w.tree w.sound enc.tree.slots s
      (used s within filled past) ∙ ap (λ (z : ℕ). Some (spot_at (slot_at row) z)) is ∙ ap Some (sym (enc.named p))

  -- the slot of the directory that has an entry
  pub seen_above : (s p : ℕ) → s < capacity + 1 → (slot_at row s).kind ≢ 0 → s ≢ 0 → slice_index row (164 * s + 2) ≡ p → (p < capacity + 1)
      × ((slot_at row p).kind ≢ 0)
  seen_above s p within filled past is =
      let h : IsDirectorySlot (capacity + 1) (slot_at row) p = subst (IsDirectorySlot (capacity + 1) (slot_at row)) is
      (enc.tree.slots.in_directory s (used s within filled past)) in
      (h.within, λ e. let k = h.kind in absurd (omega arith))

  pub seen_range : (s : ℕ) → s < capacity + 1 → (slot_at row s).kind ≢ 0 → s ≢ 0 → ((slot_at row s).kind ≤ 3)
      × (slice_index row (164 * s + 3) % 65536 ≤ 255) × (slice_index row (164 * s + 3) / 65536 ≤ 1023)
  seen_range s within filled past =
      let r = enc.tree.slots.in_range s (used s within filled past) in (
        r.kind,
        subst (λ (z : ℕ). z ≤ 255) (length-text row (164 * s + 4) _) r.component,
        subst (λ (z : ℕ). z ≤ 1023)
            (length-text row (164 * s + 36) _) r.text,
      )

  held_named : (s : ℕ) → s ≢ 0 → w.named s ≡ Held (entry_at (slot_at row) s)
  held_named s past = enc.named s ∙ slots.held_spot (slot_at row) s (omega arith)

  pub seen_directory : (s : ℕ) → s ≢ 0 → slice_index row (164 * s + 0) ≡ 1 → shape_of (kind_at (w.named s)) ≡ kind.Directory
  seen_directory s past is = ap (λ (z : Spot). shape_of (kind_at z)) (enc.named s) ∙ slots.shape_1 (slot_at row) s (omega arith) is

  pub seen_file : (s : ℕ) → s ≢ 0 → slice_index row (164 * s + 0) ≡ 2 → shape_of (kind_at (w.named s)) ≡ kind.File
  seen_file s past is = ap (λ (z : Spot). shape_of (kind_at z)) (enc.named s) ∙ slots.shape_2 (slot_at row) s (omega arith) is

  pub seen_link : (s : ℕ) → s ≢ 0 → slice_index row (164 * s + 0) ≡ 3 → shape_of (kind_at (w.named s)) ≡ kind.Link
  seen_link s past is = ap (λ (z : Spot). shape_of (kind_at z)) (enc.named s) ∙ slots.shape_3 (slot_at row) s (omega arith) is

  pub seen_component : (s count lengths : ℕ) (text : List ℕ) → s ≢ 0 → slice_index row (164 * s + 3) ≡ lengths → count ≡ lengths % 65536 →
      text_at row (164 * s + 4) count ≡ text → component_at (w.named s) ≡ text
  seen_component s count lengths text past is counted h =
      ap component_at (held_named s past) ∙ ap (text_at row (164 * s + 4)) (ap (λ (z : ℕ). z % 65536) is ∙ sym counted) ∙ h

  link_is : (k : ℕ) (own text : List ℕ) → kind_from k own ≡ Link text → text ≡ own
  link_is zero own text h = absurd (cc h)
  link_is (suc zero) own text h = absurd (cc h)
  link_is (suc (suc zero)) own text h = absurd (cc h)
  link_is (suc (suc (suc k))) own text h = cc h

  pub seen_text : (s count lengths : ℕ) (text read : List ℕ) → s ≢ 0 → slice_index row (164 * s + 3) ≡ lengths → count ≡ lengths / 65536 →
      text_at row (164 * s + 36) count ≡ read → kind_at (w.named s) ≡ Link text → text ≡ read
  seen_text s count lengths text read past is counted h link =
      link_is _ _ text (sym (ap kind_at (held_named s past)) ∙ link) ∙ ap (text_at row (164 * s + 36))
      (ap (λ (z : ℕ). z / 65536) is ∙ sym counted) ∙ h

pub known_after : (capacity after : ℕ) (may may' : List ℕ → Type 0) → after ≡ capacity → Fewer may may' → (s : ℕ) → Knows capacity may s →
    Knows after may' s
known_after capacity after may may' same fewer s h = record {
  within = subst (λ (z : ℕ). s < z + 1) (sym same) h.within;
  filled = λ row w m enc. h.filled row w (fewer row m) (subst (λ (z : ℕ). EncodesWorld z row w) same enc);
}

-- an entry past the root that is known, after further words were read
module _ (capacity after : ℕ) (may may' : List ℕ → Type 0) (same : after ≡ capacity) (fewer : Fewer may may') (s : ℕ)
    (was : Knows capacity may s) (past : s ≢ 0) where
  abbrev known : Knows after may' s
  known = known_after capacity after may may' same fewer s was

  pub torn_kind : (k : ℕ) → Reads may' (λ row. slice_index row (164 * s + 0)) k → k ≢ 1 → k ≢ 2 → k ≢ 3 → (w : World) →
      ¬ (SeesBy after may' w)
  torn_kind k reads one two three w (row, h, enc) =
      let r = (seen_range after row w enc s known.within (known.filled row w h enc) past).0 in let f = known.filled row w h enc in let is =
      reads row h in absurd (omega arith)

  pub torn_component : (lengths : ℕ) → Reads may' (λ row. slice_index row (164 * s + 3)) lengths → 255 < lengths % 65536 → (w : World) →
      ¬ (SeesBy after may' w)
  torn_component lengths reads long w (row, h, enc) =
      let r = (seen_range after row w enc s known.within (known.filled row w h enc) past).1 in let is =
      ap (λ (z : ℕ). z % 65536) (reads row h) in absurd (omega arith)

  pub torn_unnamed : (lengths : ℕ) → Reads may' (λ row. slice_index row (164 * s + 3)) lengths → lengths % 65536 ≡ 0 → (w : World) →
      ¬ (SeesBy after may' w)
  torn_unnamed lengths reads none w (row, h, enc) =
      let own = used after row w enc s known.within (known.filled row w h enc) past in
      let filled = (w.sound.named _ _ _ (enc.tree.slots.there s own)).filled in
      let empty : (slot_at row s).component ≡ [] = ap (text_at row (164 * s + 4)) (ap (λ (z : ℕ). z % 65536) (reads row h) ∙ none) in
      absurd (true≢false (sym filled ∙ ap is_filled empty))

  pub torn_text : (lengths : ℕ) → Reads may' (λ row. slice_index row (164 * s + 3)) lengths → 1023 < lengths / 65536 → (w : World) →
      ¬ (SeesBy after may' w)
  torn_text lengths reads long w (row, h, enc) =
      let r = (seen_range after row w enc s known.within (known.filled row w h enc) past).2 in let is =
      ap (λ (z : ℕ). z / 65536) (reads row h) in absurd (omega arith)

  pub torn_parent : (p : ℕ) → Reads may' (λ row. slice_index row (164 * s + 2)) p → after + 1 ≤ p → (w : World) → ¬ (SeesBy after may' w)
  torn_parent p reads over w (row, h, enc) =
      let r = (seen_above after row w enc s p known.within (known.filled row w h enc) past (reads row h)).0 in absurd (omega arith)

  pub known_parent : (p : ℕ) → Reads may' (λ row. slice_index row (164 * s + 2)) p → p < after + 1 → Knows after may' p
  known_parent p reads within = record {
    within = within;
    filled = λ row w h enc. (seen_above after row w enc s p known.within (known.filled row w h enc) past (reads row h)).1;
  }

  pub parent_seen : (p : ℕ) → Reads may' (λ row. slice_index row (164 * s + 2)) p → (w : World) → SeesBy after may' w →
      directory_of w.tree (w.named s) ≡ Some (w.named p)
  parent_seen p reads w (row, h, enc) = seen_parent after row w enc s p known.within (known.filled row w h enc) past (reads row h)

pub found_known : (capacity after : ℕ) (may : List ℕ → Type 0) (d : ℕ) (c : List ℕ) (s : ℕ) → after ≡ capacity → s < after + 1 →
    InEncoding capacity may (λ row. IsChildSlot (capacity + 1) (slot_at row) d c s) → Knows after may s
found_known capacity after may d c s same within tells = record {
  within = within;
  filled = λ row w h enc. (tells row w h (subst (λ (z : ℕ). EncodesWorld z row w) same enc)).used.used;
}

pub found_seen : (capacity after : ℕ) (may : List ℕ → Type 0) (d : ℕ) (c : List ℕ) (s : ℕ) → after ≡ capacity →
    InEncoding capacity may (λ row. IsChildSlot (capacity + 1) (slot_at row) d c s) → (w : World) → SeesBy after may w →
    child_of w.tree (w.named d) c ≡ Some (w.named s)
found_seen capacity after may d c s same tells w (row, h, enc) = let e = subst (λ (z : ℕ). EncodesWorld z row w) same enc in
    seen_child capacity row w e d s c (tells row w h e)

pub missing_seen : (capacity after : ℕ) (may may' : List ℕ → Type 0) (d : ℕ) (c : List ℕ) → after ≡ capacity → Fewer may may' →
    Knows capacity may d → TellsFound capacity may' d c None → (w : World) → SeesBy after may' w → child_of w.tree (w.named d) c ≡ None
missing_seen capacity after may may' d c same fewer known none w (row, h, enc) =
    let e = subst (λ (z : ℕ). EncodesWorld z row w) same enc in
    seen_no_child capacity row w e d c known.within (known.filled row w (fewer row h) e) (λ s x. none row w h e s x)

pub none_seen : (capacity after : ℕ) (may : List ℕ → Type 0) → after ≡ capacity → EncodesNone capacity may → (w : World) →
    ¬ (SeesBy after may w)
none_seen capacity after may same none w (row, h, enc) = none row w h (subst (λ (z : ℕ). EncodesWorld z row w) same enc)
