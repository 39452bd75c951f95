-- What the slots of a directory's entries, and free slots, say about the worlds that are seen.
use Rattle.std.proofs.Common.{◌≡◌, ℕ, ◌+◌, ◌<◌, ◌≤◌, ◌≢◌, Bool, true, false, List, length, Some, None, Option, sym, refl, ap, ◌∙◌, subst}
use Rattle.std.proofs.Common.{arith, true≢false}
use mathlib.Core.Logic.{dite}
use Rattle.std.specs.Prelude.{Result, Ok, Err, IfOk}
use native.Mathlib.Decide.{ℕ_discrete}
use Rattle.std.specs.Option.{option_map}
use Rattle.std.proofs.lemmas.Bool.{lt-ltb, le-ltb}
use Rattle.directory_tree.specs.Apply.{has_room}
use Rattle.directory_tree.specs.Tree.{Entry, find, is_empty}
use Rattle.directory_tree.specs.Walk.{Spot}
use Rattle.directory_tree.specs.Walk.Spot.{Held}
use Rattle.directory_tree.specs.Spots.{node_at}
use Rattle.std.proofs.lemmas.Option.{none-some}
use Rattle.directory_tree.specs.laws.Found.{empty_none}
use Rattle.directory_tree.proofs.Placement.{none_empty}
use Rattle.path_lookup.specs.World.{World}
use Rattle.tree_row.specs.Slots.{slot_at}
use Rattle.tree_row.specs.Worlds.{spot_at, EncodesWorld, SeesBy, Knows, Fewer}
use Rattle.tree_row.specs.Questions.{IsEntryOf, TellsEntryOf, TellsChildless, TellsFree}
use Rattle.tree_row.proofs.Slots.{node_of, found_there}
use Rattle.tree_row.proofs.SeenSlots.{seen_no_child}
use Rattle.tree_row.proofs.Counts.{room_free, room_full, room_most}

not_empty : (es : List Entry) (d : ℕ) (c : List ℕ) (e : Entry) → find es d c ≡ Some e → is_empty es d ≡ false
not_empty es d c e h = elim (is_empty es d) as (λ (b : Bool). is_empty es d ≡ b → is_empty es d ≡ false) [
  | true ↦ λ q. absurd (none-some e (sym (empty_none es d c q) ∙ h))
  | false ↦ λ q. q
] refl

none_held : (o : Option Entry) → option_map Held o ≡ None → o ≡ None
none_held None h = refl
none_held (Some e) h = absurd (none-some (Held e) (sym h))

-- no slot before s holds an entry of the directory
abbrev pub NoEntryBelow : ℕ → (List ℕ → Type 0) → ℕ → ℕ → Type 0
NoEntryBelow capacity may d s = (row : List ℕ) → may row → (r : ℕ) → r < s → ¬ (IsEntryOf (capacity + 1) (slot_at row) d r)

seen_entry : (capacity : ℕ) (row : List ℕ) (w : World) → EncodesWorld capacity row w → (d s : ℕ) → IsEntryOf (capacity + 1) (slot_at row) d
    s → is_empty w.tree.entries (node_at (w.named d)) ≡ false
seen_entry capacity row w enc d s h =
    ap (λ (z : Spot). is_empty w.tree.entries (node_at z)) (enc.named d)
    ∙ not_empty w.tree.entries (node_at (spot_at (slot_at row) d)) (slot_at row s).component _
    (found_there (capacity + 1) (slot_at row) w.tree enc.tree.slots s (node_at (spot_at (slot_at row) d)) _ h.used
    (ap (λ (z : ℕ). (slot_at row z).node) h.under ∙ sym (node_of (capacity + 1) (slot_at row) w.tree enc.tree.slots d)) refl)

seen_no_entry : (capacity : ℕ) (row : List ℕ) (w : World) → EncodesWorld capacity row w → (d : ℕ) → d < capacity + 1 →
    (slot_at row d).kind ≢ 0 → ((s : ℕ) → ¬ (IsEntryOf (capacity + 1) (slot_at row) d s)) →
    is_empty w.tree.entries (node_at (w.named d)) ≡ true
seen_no_entry capacity row w enc d within filled none =
    none_empty w.tree.entries (node_at (w.named d))
    (λ q. none_held _ (seen_no_child capacity row w enc d q within filled (λ s h. none s record { used = h.used; under = h.under })))

pub no_entry_more : (capacity : ℕ) (may may' : List ℕ → Type 0) (d s : ℕ) → Fewer may may' → NoEntryBelow capacity may d s →
    TellsEntryOf capacity may' d s false → NoEntryBelow capacity may' d (s + 1)
no_entry_more capacity may may' d s fewer none here row h r l = dite (ℕ_discrete r s)
    (λ e x. here row h (subst (λ (z : ℕ). IsEntryOf (capacity + 1) (slot_at row) d z) e x))
    (λ other. none row (fewer row h) r (omega arith))

pub none_below : (capacity : ℕ) (may : List ℕ → Type 0) (d stop : ℕ) → capacity + 1 ≤ stop → NoEntryBelow capacity may d stop →
    TellsChildless capacity may d true
none_below capacity may d stop end none row h s x = none row h s (let a = x.used.within in omega arith) x

pub one_entry : (capacity : ℕ) (may : List ℕ → Type 0) (d s : ℕ) → TellsEntryOf capacity may d s true → TellsChildless capacity may d false
one_entry capacity may d s tells row h none = none s (tells row h)

module _ (capacity after : ℕ) (may may' : List ℕ → Type 0) (d : ℕ) (same : after ≡ capacity) (fewer : Fewer may may')
    (known : Knows capacity may d) where
  seen_childless : (row : List ℕ) (w : World) → may' row → EncodesWorld capacity row w → (empty : Bool) →
      TellsChildless capacity may' d empty → is_empty w.tree.entries (node_at (w.named d)) ≡ empty
  seen_childless row w h enc true tells = seen_no_entry capacity row w enc d known.within (known.filled row w (fewer row h) enc)
      (tells row h)
  seen_childless row w h enc false tells =
      elim (is_empty w.tree.entries (node_at (w.named d))) as
      (λ (b : Bool). is_empty w.tree.entries (node_at (w.named d)) ≡ b → b ≡ false) [
        | true ↦ λ e. absurd (tells row h (λ s x. true≢false (sym e ∙ seen_entry capacity row w enc d s x)))
        | false ↦ λ e. refl
      ] refl

  pub childless_seen : (empty : Bool) → TellsChildless capacity may' d empty → (w : World) → SeesBy after may' w →
      is_empty w.tree.entries (node_at (w.named d)) ≡ empty
  childless_seen empty tells w (row, h, enc) =
      seen_childless row w h (subst (λ (z : ℕ). EncodesWorld z row w) same enc) empty tells

  pub childless_answered : {E : Type 0} → (found : Result Bool E) → IfOk found (TellsChildless capacity may' d) →
      IfOk found (λ empty. (w : World) → SeesBy after may' w → is_empty w.tree.entries (node_at (w.named d)) ≡ empty)
  childless_answered (Ok empty) tells = childless_seen empty tells
  childless_answered (Err e) tells = tt

pub room_seen : (capacity after : ℕ) (may : List ℕ → Type 0) (s : ℕ) → after ≡ capacity → TellsFree capacity may (Some s) → (w : World) →
    SeesBy after may w → has_room after w.tree ≡ true
room_seen capacity after may s same tells w (row, h, enc) =
    let e = subst (λ (z : ℕ). EncodesWorld z row w) same enc in
    ap (λ (z : ℕ). has_room z w.tree) same ∙ lt-ltb _ _ (room_free (capacity + 1) (slot_at row) w.tree e.tree.slots capacity s refl
    w.sound.distinct (tells row h).free)

pub no_room_seen : (capacity after : ℕ) (may : List ℕ → Type 0) → after ≡ capacity → TellsFree capacity may None → (w : World) →
    SeesBy after may w → has_room after w.tree ≡ false
no_room_seen capacity after may same tells w (row, h, enc) =
    let e = subst (λ (z : ℕ). EncodesWorld z row w) same enc in
    ap (λ (z : ℕ). has_room z w.tree) same ∙ le-ltb _ _ (room_full (capacity + 1) (slot_at row) w.tree e.tree.slots capacity refl
    w.sound.distinct (tells row h))

pub most_seen : (capacity : ℕ) (may : List ℕ → Type 0) (w : World) → SeesBy capacity may w → length w.tree.entries ≤ capacity
most_seen capacity may w (row, h, enc) = room_most (capacity + 1) (slot_at row) w.tree enc.tree.slots capacity refl w.sound.distinct
