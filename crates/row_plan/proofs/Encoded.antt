-- What a row encodes after the slots and the words of an act were set.
use Rattle.std.proofs.Common.{◌≡◌, ◌≢◌, ℕ, ◌+◌, ◌<◌, ◌≤◌, List, length, Some, None, Option, sym, refl, ap, ◌∙◌, subst, arith}
use Rattle.std.specs.Prelude.{IfSome, true}
use mathlib.Core.Logic.{inl, inr, dite}
use native.Mathlib.Decide.{ℕ_discrete}
use Rattle.names.specs.declared.limits.TheConstants.{LONGEST_COMPONENT}
use Rattle.directory_tree.specs.declared.node.Kind.TheVariants as kind
use Rattle.directory_tree.specs.declared.node.NodeKind.{NodeKind}
use Rattle.directory_tree.specs.Tree.{Tree, find, is_empty}
use Rattle.directory_tree.specs.Spots.{shape_of, node_at, kind_at, child_of}
use Rattle.directory_tree.specs.Apply.{entry, with_entry, dropped, longest_link_text}
use Rattle.path_lookup.specs.World.{World}
use Rattle.row_index.specs.Places.{index_length}
use Rattle.row_index.specs.Hashes.{home}
use Rattle.row_index.proofs.Upkeep.{reused}
use Rattle.row_index.specs.Edits.{index_at}
use Rattle.directory_tree.specs.laws.Found.{found_at}
use Rattle.tree_row.specs.Slots.{Slot, slot_at, IsUsed}
use Rattle.tree_row.specs.Rows.{Encodes, index_base, home_of, homes_in}
use Rattle.tree_row.specs.Worlds.{EncodesWorld}
use Rattle.tree_row.proofs.Slots.{one_directory}
use Rattle.row_rule.specs.declared.cell.Cell.{Cell}
use Rattle.row_rule.specs.Row.{write}
use Rattle.row_plan.specs.Leaves.{text_in, new_slot, with_slot, AddsToIndex, RemovesFromIndex, RemovesAny}
use Rattle.row_plan.specs.inner.Rows.{SetsSlot, FreesSlot, MovesSlot, FreesAny, KeepsOthers, SlotsEncode, moved_slot}
use Rattle.row_plan.specs.inner.Entries.{AddsEntry}
use Rattle.row_plan.specs.inner.Planned.{HasVacancy, Finds, FindsAny, NamesUsed}
use Rattle.row_plan.proofs.SettledSlots.{other_stays, other_kind}
use Rattle.row_plan.proofs.NewEntries.{code_used}
use Rattle.row_plan.proofs.Encoding.{in_range_all}
use Rattle.row_plan.proofs.Enactment as enacting
use Rattle.row_plan.proofs.IndexedRows as indexing

module _ (capacity : ℕ) (row : List ℕ) (w : World) (enc : EncodesWorld capacity row w) where
  abbrev n : ℕ
  n = capacity + 1

  abbrev size : ℕ
  size = index_length capacity

  abbrev f : ℕ → Slot
  f = slot_at row

  abbrev t : Tree
  t = w.tree

  abbrev pub U : ℕ → Type 0
  U = IsUsed n f

  pub counted : (x : ℕ) → U x → (0 < x) × (x ≤ capacity)
  counted x is = (is.past_root, let l = is.within in omega arith)

  pub fits : (between : List ℕ) → length between ≡ length row → index_base capacity + size ≤ length between
  fits between long = let l = enc.tree.long in omega arith

  standing : (s : ℕ) (between : List ℕ) → s < n → KeepsOthers row s between → indexing.Words capacity between U (homes_in size row)
  standing s between within others =
      indexing.still capacity row between enc.tree.index (indexing.words_stay capacity row s between within others)

  stays : (s : ℕ) (between : List ℕ) → KeepsOthers row s between → (x : ℕ) → U x → x ≢ s → slot_at between x ≡ f x
  stays s between others x is apart = let r = in_range_all n f t enc.tree.slots x is.within is.used in
      other_stays row s between others x apart r.0 r.1

  still_used : (s : ℕ) (between : List ℕ) → KeepsOthers row s between → (x : ℕ) → U x → x ≢ s → IsUsed n (slot_at between) x
  still_used s between others x is apart = record {
    past_root = is.past_root;
    within = is.within;
    used = λ e. is.used (sym (other_kind row s between others x apart) ∙ e);
  }

  was_used : (s : ℕ) (between : List ℕ) → KeepsOthers row s between → (x : ℕ) → IsUsed n (slot_at between) x → x ≢ s → U x
  was_used s between others x is apart = record {
    past_root = is.past_root;
    within = is.within;
    used = λ e. is.used (other_kind row s between others x apart ∙ e);
  }

  -- the index has room for a new entry
  pub made_vacant : (own : Slot) (s p : ℕ) (c between : List ℕ) → s < n → SetsSlot row s own between → HasVacancy capacity between p c
  made_vacant own s p c between within sets =
      indexing.vacant capacity U counted row between (fits between sets.long) (standing s between within sets.others) p c

  -- a new entry; `number` is the number of its node as the plan has it
  pub made : (node_kind : NodeKind) (number node next p : ℕ) (c : List ℕ) (plan : List Cell) → p < n →
      find t.entries (node_at (w.named p)) c ≡ None → shape_of (kind_at (w.named p)) ≡ kind.Directory → length c ≤ LONGEST_COMPONENT →
      length (text_in node_kind) ≤ longest_link_text → number ≡ node → AddsEntry capacity row (new_slot node_kind number p c) plan →
      Encodes capacity (write row plan) (with_entry t (entry (node_at (w.named p)) c node node_kind) next)
  made node_kind number node next p c plan within none directory short short_text is planned =
      let adds : AddsEntry capacity row (new_slot node_kind node p c) plan =
      subst (λ (z : ℕ). AddsEntry capacity row (new_slot node_kind z p c) plan) is planned in
      let s = adds.slot in
      let own = new_slot node_kind node p c in
      let between = with_slot row s own in
      let after = write row plan in
      let sets = adds.sets in
      let free = adds.first.free in
      let u = with_entry t (entry (node_at (w.named p)) c node node_kind) next in
      let slots : SlotsEncode capacity between u =
      enacting.enacts_new capacity row w enc node_kind node next s p c between within none directory free short short_text sets in
      let apart : (x : ℕ) → U x → x ≢ s = λ x is e. is.used (ap (λ (z : ℕ). (f z).kind) e ∙ free.free) in
      let words = indexing.added capacity U counted row between (fits between sets.long) (standing s between free.within sets.others)
      (IsUsed n (slot_at between)) between p s c after free.past_root (λ is. is.used free.free)
      record {
        past_root = free.past_root;
        within = free.within;
        used = λ e. code_used node_kind (sym (ap (λ (z : Slot). z.kind) sets.here) ∙ e);
      }
      (λ x is. still_used s between sets.others x is (apart x is))
      (λ x is. dite (ℕ_discrete x s) (λ e. inl e) (λ other. inr (was_used s between sets.others x is other)))
      (λ x is. ap (home_of size) (stays s between sets.others x is (apart x is)))
      (ap (home_of size) sets.here) adds.added in
      let same = indexing.adding_stays capacity p s c between after adds.added in
      indexing.encodes capacity between after u slots same.0 same.1 words

  -- the slot of an entry has the home of its directory's slot and its component
  pub own_home : (d r : ℕ) (c : List ℕ) → d < n → (f d).kind ≢ 0 → U r → child_of t (w.named d) c ≡ Some (w.named r) →
      homes_in size row r ≡ home size d c
  own_home d r c within filled is there =
      let key = found_at t.entries (node_at (w.named d)) c _ (enacting.child_found capacity row w enc d r c is there) in
      let same = key.0 ∙ enacting.node_is capacity row w enc d in
      let up = one_directory n f t w.sound enc.tree.slots d (f r).parent within filled (enc.tree.slots.in_directory r is) same in
      λ i. home size (up i) (key.1 i)

  -- the slot of an entry that is removed is found
  pub gone_found : (d r : ℕ) (c between : List ℕ) → d < n → (f d).kind ≢ 0 → U r → child_of t (w.named d) c ≡ Some (w.named r) →
      FreesSlot row r between → Finds capacity between d c r × NamesUsed capacity row between
  gone_found d r c between within filled is there frees =
      let words = standing r between is.within frees.others in
      let long = fits between frees.long in (
        indexing.finds capacity U counted row between long words d r c is (own_home d r c within filled is there),
        indexing.names capacity U counted row between long words (λ x v. v),
      )

  -- an entry that is removed
  pub gone : (d r : ℕ) (c between after : List ℕ) → r < n → (f r).kind ≢ 0 → child_of t (w.named d) c ≡ Some (w.named r) →
      (shape_of (kind_at (w.named r)) ≡ kind.Directory → is_empty t.entries (node_at (w.named r)) ≡ true) → FreesSlot row r between →
      RemovesFromIndex capacity row r between after → Encodes capacity after (dropped t (node_at (w.named d)) c)
  gone d r c between after within filled there empty frees left =
      let u = dropped t (node_at (w.named d)) c in
      let slots : SlotsEncode capacity between u =
      enacting.enacts_removal capacity row w enc d r c between within filled there empty frees in
      let is = enacting.child_used capacity row w enc d r c within filled there in
      let apart : (x : ℕ) → IsUsed n (slot_at between) x → x ≢ r = λ x is e. is.used
      (ap (λ (z : ℕ). (slot_at between z).kind) e ∙ frees.here) in
      let words = indexing.removed capacity U counted row between (fits between frees.long)
      (standing r between within frees.others) r after
      is left in
      let same = indexing.removing_stays capacity row r between after left in
      indexing.encodes capacity between after u slots same.0 same.1
      (reused size (index_at after (index_base capacity)) (indexing.Without capacity U r) (IsUsed n (slot_at between)) (homes_in size row)
      (homes_in size between) (λ x v. still_used r between frees.others x v.0 v.1)
      (λ x v. (was_used r between frees.others x v (apart x v), apart x v))
      (λ x v. ap (home_of size) (stays r between frees.others x v.0 v.1)) words)

  -- an entry that moves, after the slot of what it replaces was freed
  module _ (s p : ℕ) (name : List ℕ) (replaced : Option ℕ) (plan : List Cell) (own : U s) (within : IfSome replaced (λ r. r < n))
      (moves : MovesSlot row plan s p name replaced) (apart : indexing.WithoutAny capacity U replaced s) where
    abbrev between : List ℕ
    between = write row plan

    abbrev first : List ℕ
    first = moves.between

    abbrev V : ℕ → Type 0
    V = indexing.WithoutAny capacity U replaced

    first_stays : (o : Option ℕ) (row' : List ℕ) → FreesAny row o row' → (x : ℕ) → indexing.WithoutAny capacity U o x →
        slot_at row' x ≡ f x
    first_stays None row' same x v = ap (λ (z : List ℕ). slot_at z x) same
    first_stays (Some r) row' frees x v = stays r row' frees.others x v.0 v.1

    first_was : (o : Option ℕ) (row' : List ℕ) → FreesAny row o row' → (x : ℕ) → IsUsed n (slot_at row') x →
        indexing.WithoutAny capacity U o x
    first_was None row' same x is = subst (λ (z : List ℕ). IsUsed n (slot_at z) x) same is
    first_was (Some r) row' frees x is =
        let other : x ≢ r = λ e. is.used (ap (λ (z : ℕ). (slot_at row' z).kind) e ∙ frees.here) in
        (was_used r row' frees.others x is other, other)

    first_words : (o : Option ℕ) (row' : List ℕ) → IfSome o (λ r. r < n) → FreesAny row o row' → indexing.SameWords capacity row row'
    first_words None row' inside same = λ q near. ap (λ (z : List ℕ). index_at z (index_base capacity) q) same
    first_words (Some r) row' inside frees = indexing.words_stay capacity row r row' inside frees.others

    first_long : (o : Option ℕ) (row' : List ℕ) → FreesAny row o row' → length row' ≡ length row
    first_long None row' same = ap (λ (z : List ℕ). length z) same
    first_long (Some r) row' frees = frees.long

    long : length between ≡ length row
    long = moves.moves.long ∙ first_long replaced first moves.frees

    words : indexing.Words capacity between U (homes_in size row)
    words = indexing.still capacity row between enc.tree.index (λ q near.
        indexing.words_stay capacity first s between own.within moves.moves.others q near
        ∙ first_words replaced first within moves.frees q near)

    then_stays : (x : ℕ) → V x → x ≢ s → slot_at between x ≡ f x
    then_stays x v other =
        let same = first_stays replaced first moves.frees x v in
        let is = indexing.any_less capacity U replaced x v in
        let r = in_range_all n f t enc.tree.slots x is.within is.used in
        other_stays first s between moves.moves.others x other
        (subst (λ (z : Slot). length z.component ≤ LONGEST_COMPONENT) (sym same) r.0)
        (subst (λ (z : Slot). length z.text ≤ longest_link_text) (sym same) r.1) ∙ same

    here : slot_at between s ≡ moved_slot (f s) p name
    here = moves.moves.here ∙ ap (λ (z : Slot). moved_slot z p name) (first_stays replaced first moves.frees s apart)

    then_used : (x : ℕ) → V x → IsUsed n (slot_at between) x
    then_used x v =
        let is = indexing.any_less capacity U replaced x v in
        dite (ℕ_discrete x s)
        (λ e. record {
          past_root = is.past_root;
          within = is.within;
          used = λ z. own.used (sym (ap (λ (k : Slot). k.kind) here) ∙ ap (λ (k : ℕ). (slot_at between k).kind) (sym e) ∙ z);
        })
        (λ other. record {
          past_root = is.past_root;
          within = is.within;
          used = λ z. is.used (sym (ap (λ (k : Slot). k.kind) (then_stays x v other)) ∙ z);
        })

    then_was : (x : ℕ) → IsUsed n (slot_at between) x → V x
    then_was x is = dite (ℕ_discrete x s)
        (λ e. subst V (sym e) apart)
        (λ other. first_was replaced first moves.frees x record {
          past_root = is.past_root;
          within = is.within;
          used = λ z. is.used (other_kind first s between moves.moves.others x other ∙ z);
        })

    -- what is replaced is found
    pub replaced_found : IfSome replaced (λ r. U r × (homes_in size row r ≡ home size p name)) →
        FindsAny capacity between p name replaced × NamesUsed capacity row between
    replaced_found there = (any_found replaced there, indexing.names capacity U counted row between (fits between long) words (λ x v. v))
      where
        any_found : (o : Option ℕ) → IfSome o (λ r. U r × (homes_in size row r ≡ home size p name)) → FindsAny capacity between p name o
        any_found None is = tt
        any_found (Some r) is = indexing.finds capacity U counted row between (fits between long) words p r name is.0 is.1

    module _ (there : IfSome replaced U) (freed : List ℕ) (left : RemovesAny capacity row replaced between freed) where
      counted_less : (x : ℕ) → V x → (0 < x) × (x ≤ capacity)
      counted_less x v = counted x (indexing.any_less capacity U replaced x v)

      words_freed : indexing.Words capacity freed V (homes_in size row)
      words_freed = indexing.any_removed capacity U counted row between (fits between long) words replaced there freed left

      freed_same : indexing.SameBefore capacity between freed × (length freed ≡ length between)
      freed_same = indexing.any_removing_stays capacity row replaced between freed left

      -- the entry that moves is found at its old place
      pub moved_found : (d : ℕ) (c : List ℕ) → homes_in size row s ≡ home size d c →
          Finds capacity freed d c s × NamesUsed capacity row freed
      moved_found d c home_is =
          let room = fits freed (freed_same.1 ∙ long) in (
            indexing.finds capacity V counted_less row freed room words_freed d s c apart home_is,
            indexing.names capacity V counted_less row freed room words_freed (λ x v. indexing.any_less capacity U replaced x v),
          )

      module _ (mid : List ℕ) (gone_s : RemovesFromIndex capacity row s freed mid) where
        abbrev W : ℕ → Type 0
        W = indexing.Without capacity V s

        counted_least : (x : ℕ) → W x → (0 < x) × (x ≤ capacity)
        counted_least x v = counted_less x v.0

        mid_same : indexing.SameBefore capacity freed mid × (length mid ≡ length freed)
        mid_same = indexing.removing_stays capacity row s freed mid gone_s

        room_mid : index_base capacity + size ≤ length mid
        room_mid = fits mid (mid_same.1 ∙ freed_same.1 ∙ long)

        words_mid : indexing.Words capacity mid W (homes_in size row)
        words_mid = indexing.removed capacity V counted_less row freed (fits freed (freed_same.1 ∙ long)) words_freed s mid apart gone_s

        -- the index has room at the new place
        pub moved_vacant : HasVacancy capacity mid p name
        moved_vacant = indexing.vacant capacity W counted_least row mid room_mid words_mid p name

        pub moved_encodes : (u : Tree) (after : List ℕ) → SlotsEncode capacity between u → AddsToIndex capacity p name s mid after →
            Encodes capacity after u
        moved_encodes u after slots put =
            let words_after = indexing.added capacity W counted_least row mid room_mid words_mid
            (IsUsed n (slot_at between)) between p s name
            after own.past_root (λ v. v.1 refl) (then_used s apart) (λ x v. then_used x v.0)
            (λ x is. dite (ℕ_discrete x s) (λ e. inl e) (λ other. inr (then_was x is, other)))
            (λ x v. ap (home_of size) (then_stays x v.0 v.1)) (ap (home_of size) here) put in
            let same = indexing.adding_stays capacity p s name mid after put in
            indexing.encodes capacity between after u slots
            (λ k near. same.0 k near ∙ mid_same.0 k near ∙ freed_same.0 k near) (same.1 ∙ mid_same.1 ∙ freed_same.1) words_after
