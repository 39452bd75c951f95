-- What the tests of a move say of the slots that it names.
use Rattle.std.proofs.Common.{◌≡◌, ◌≢◌, ℕ, ◌+◌, ◌<◌, ◌≤◌, List, length, Some, None, Option, sym, ap, subst, subst₂}
use Rattle.std.proofs.Math.Path.{transport}
use Rattle.std.specs.Prelude.{IfSome}
use Rattle.std.specs.Option.{option_map}
use Rattle.std.proofs.lemmas.Option.{IfSome_then}
use Rattle.names.specs.declared.limits.TheConstants.{LONGEST_COMPONENT}
use Rattle.directory_tree.specs.Apply.{moved, longest_link_text}
use Rattle.directory_tree.specs.Walk.{Spot}
use Rattle.directory_tree.specs.Spots.{node_at, child_of}
use Rattle.path_lookup.specs.World.{World}
use Rattle.row_index.specs.Places.{index_length}
use Rattle.row_index.specs.Hashes.{home}
use Rattle.change_checks.specs.declared.act.Move.{Move}
use Rattle.change_checks.specs.declared.act.Act.TheVariants as act
use Rattle.change_checks.specs.Act.{MayMove, NamesOnly}
use Rattle.tree_row.specs.Slots.{slot_at, IsUsed}
use Rattle.tree_row.specs.Rows.{Encodes, homes_in}
use Rattle.tree_row.specs.Worlds.{EncodesWorld}
use Rattle.tree_row.specs.declared.look.RowEntry.{RowEntry}
use Rattle.row_rule.specs.declared.cell.Cell.{Cell}
use Rattle.row_rule.specs.Row.{write}
use Rattle.row_plan.specs.Plan.{IsFilled}
use Rattle.row_plan.specs.Leaves.{without_any, with_place, Leaves, AddsToIndex, RemovesFromIndex, RemovesAny}
use Rattle.row_plan.specs.inner.Rows.{MovesSlot, PlansMove}
use Rattle.row_plan.specs.inner.Acts.{NamesSlots, PassedTests}
use Rattle.row_plan.specs.inner.Planned.{HasVacancy, Finds, FindsAny, NamesUsed}
use Rattle.row_plan.proofs.Encoding.{in_range_all}
use Rattle.row_plan.proofs.Enactment.{child_used, enacts_move}
use Rattle.row_plan.proofs.Encoded.{own_home, replaced_found, moved_found, moved_vacant, moved_encodes}
use Rattle.row_plan.proofs.IndexedRows.{WithoutAny}
use Rattle.row_plan.proofs.Outcomes.{names_filled}

module _ (capacity : ℕ) (row : List ℕ) (w : World) (enc : EncodesWorld capacity row w) where
  abbrev U : ℕ → Type 0
  U = IsUsed (capacity + 1) (slot_at row)

  abbrev means : RowEntry → Spot
  means e = w.named e.slot

  abbrev slots_of : Option RowEntry → Option ℕ
  slots_of o = option_map (λ (e : RowEntry). e.slot) o

  pub within_any : (o : Option RowEntry) → IfSome o (λ e. IsFilled capacity row e.slot) → IfSome (slots_of o) (λ r. r < capacity + 1)
  within_any None holds = tt
  within_any (Some e) holds = holds.within

  pub any_used : (d : ℕ) (c : List ℕ) (o : Option RowEntry) → IfSome o (λ e. IsFilled capacity row e.slot) →
      child_of w.tree (w.named d) c ≡ option_map means o → IfSome (slots_of o) U
  any_used d c None holds is = tt
  any_used d c (Some e) holds is = child_used capacity row w enc d e.slot c holds.within holds.filled is

  pub any_home : (d : ℕ) (c : List ℕ) (o : Option RowEntry) → IsFilled capacity row d → IfSome o (λ e. IsFilled capacity row e.slot) →
      child_of w.tree (w.named d) c ≡ option_map means o →
      IfSome (slots_of o) (λ r. U r × (homes_in (index_length capacity) row r ≡ home (index_length capacity) d c))
  any_home d c None directory holds is = tt
  any_home d c (Some e) directory holds is =
      let own = child_used capacity row w enc d e.slot c holds.within holds.filled is in
      (own, own_home capacity row w enc d e.slot c directory.within directory.filled own is)

  pub apart_any : (s : ℕ) → U s → (o : Option RowEntry) → IfSome o (λ e. node_at (means e) ≢ node_at (w.named s)) →
      WithoutAny capacity U (slots_of o) s
  apart_any s own None other = own
  apart_any s own (Some e) other = (own, λ same. other (ap (λ (z : ℕ). node_at (w.named z)) (sym same)))

  -- what is known once the slots of a move are set, by the numbers that the plan was made with
  pub record Moving (m : Move RowEntry) (s p : ℕ) (gone : Option ℕ) (plan : List Cell) : Type 0 where
    pub tested : MayMove means w.tree m
    pub holds : NamesOnly (λ e. IsFilled capacity row e.slot) (act.Move m)
    pub slot : s ≡ m.entry.slot
    pub parent : p ≡ m.to.directory.slot
    pub replaced : gone ≡ slots_of m.replaced
    pub moves : MovesSlot row plan s p m.to.component.now gone
    pub sets : write row plan ≡ with_place (without_any row gone) s p m.to.component.now

  pub moving : (m : Move RowEntry) (plan : List Cell) (whole : List ℕ → Type 0) {s p : ℕ} {gone : Option ℕ} → whole row →
      NamesSlots capacity whole (act.Move m) → PassedTests capacity whole (act.Move m) → s ≡ m.entry.slot → p ≡ m.to.directory.slot →
      gone ≡ slots_of m.replaced → PlansMove capacity whole s p m.to.component.now gone plan → Moving m s p gone plan
  moving m plan whole is_whole names tested slot parent replaced plans =
      let holds = names_filled capacity whole row w is_whole enc (act.Move m) names in
      let range = in_range_all (capacity + 1) (slot_at row) w.tree enc.tree.slots m.entry.slot holds.1.within holds.1.filled in
      let planned = plans row is_whole enc.tree.long (subst (λ (z : ℕ). length (slot_at row z).text ≤ longest_link_text)
      (sym slot) range.1) in
      record {
        tested = tested row w is_whole enc;
        holds = holds;
        slot = slot;
        parent = parent;
        replaced = replaced;
        moves = planned.0;
        sets = planned.1;
      }

-- the steps of the plan, each after the one before
module _ {capacity : ℕ} {row : List ℕ} {w : World} {enc : EncodesWorld capacity row w} {m : Move RowEntry} {s p : ℕ} {gone : Option ℕ}
    {plan : List Cell} (is : Moving capacity row w enc m s p gone plan) where
  abbrev used : ℕ → Type 0
  used = U capacity row w enc

  abbrev name : List ℕ
  name = m.to.component.now

  abbrev d : ℕ
  d = m.from.directory.slot

  abbrev c : List ℕ
  c = m.from.component.now

  entry_used : used m.entry.slot
  entry_used = child_used capacity row w enc d m.entry.slot c is.holds.1.within is.holds.1.filled is.tested.there

  own : used s
  own = subst used (sym is.slot) entry_used

  apart : WithoutAny capacity used gone s
  apart = subst₂ (WithoutAny capacity used) (sym is.replaced) (sym is.slot)
      (apart_any capacity row w enc m.entry.slot entry_used m.replaced is.tested.other)

  within : IfSome gone (λ r. r < capacity + 1)
  within = subst (λ (o : Option ℕ). IfSome o (λ r. r < capacity + 1)) (sym is.replaced)
      (within_any capacity row w enc m.replaced is.holds.3)

  there : IfSome gone used
  there = subst (λ (o : Option ℕ). IfSome o used) (sym is.replaced)
      (any_used capacity row w enc m.to.directory.slot name m.replaced is.holds.3 is.tested.onto)

  pub replaced_is_found : FindsAny capacity (write row plan) p name gone × NamesUsed capacity row (write row plan)
  replaced_is_found = replaced_found capacity row w enc s p name gone plan own within is.moves apart
      (subst₂ (λ (o : Option ℕ) (z : ℕ). IfSome o (λ r. used r × (homes_in (index_length capacity) row r
      ≡ home (index_length capacity) z name))) (sym is.replaced) (sym is.parent)
      (any_home capacity row w enc m.to.directory.slot name m.replaced is.holds.2 is.holds.3 is.tested.onto))

  module _ (freed : List ℕ) (left : RemovesAny capacity row gone (write row plan) freed) where
    pub entry_is_found : Finds capacity freed d c s × NamesUsed capacity row freed
    entry_is_found = moved_found capacity row w enc s p name gone plan own within is.moves apart there freed left d c
        (subst (λ (z : ℕ). homes_in (index_length capacity) row z ≡ home (index_length capacity) d c) (sym is.slot)
        (own_home capacity row w enc d m.entry.slot c is.holds.0.within is.holds.0.filled entry_used is.tested.there))

    module _ (mid : List ℕ) (left_entry : RemovesFromIndex capacity row s freed mid) where
      pub new_place_is_vacant : HasVacancy capacity mid p name
      new_place_is_vacant =
          moved_vacant capacity row w enc s p name gone plan own within is.moves apart there freed left mid left_entry

      module _ (after : List ℕ) (put : AddsToIndex capacity p name s mid after) where
        pub encodes_moved : length name ≤ LONGEST_COMPONENT →
            Encodes capacity after (moved w.tree (node_at (w.named d)) c (node_at (w.named m.to.directory.slot)) name)
        encodes_moved short =
            let tested = is.tested in
            let moves = transport (λ i. MovesSlot row plan (is.slot i) (is.parent i) name (is.replaced i)) is.moves in
            moved_encodes capacity row w enc s p name gone plan own within is.moves apart there freed left mid left_entry
            (moved w.tree (node_at (w.named d)) c (node_at (w.named m.to.directory.slot)) name) after
            (enacts_move capacity row w enc d m.entry.slot m.to.directory.slot c name m.replaced plan is.holds.2.within is.holds.1.within
            is.holds.1.filled (IfSome_then m.replaced is.holds.3 (λ e k. (k.within, k.filled)))
            tested.there tested.onto tested.other tested.empty tested.directory short moves) put

        pub leaves_moved : (next : ℕ) → Leaves capacity row next (act.Move m) after
        leaves_moved next = (
          freed,
          mid,
          transport (λ i. RemovesAny capacity row (is.replaced i)
              (with_place (without_any row (is.replaced i)) (is.slot i) (is.parent i) name) freed)
              (subst (λ (z : List ℕ). RemovesAny capacity row gone z freed) is.sets left),
          subst (λ (z : ℕ). RemovesFromIndex capacity row z freed mid) is.slot left_entry,
          subst₂ (λ (z t : ℕ). AddsToIndex capacity z name t mid after) is.parent is.slot put,
        )
