-- The row that an act leaves, word for word. Its meaning is what the row then encodes; since all of it is determined, a change has
-- one plan.
use Rattle.std.specs.Prelude.{◌≡◌, ℕ, zero, suc, ◌+◌, ◌*◌, ◌/◌, List, [], ◌∷◌, length, slice_index, slice_set, Option, Some, None}
use Rattle.std.specs.Option.{option_map}
use Rattle.directory_tree.specs.declared.node.NodeKind.{NodeKind}
use Rattle.directory_tree.specs.declared.node.NodeKind.TheVariants.{Directory, File, Link}
use Rattle.change_checks.specs.declared.act.Act.{Act}
use Rattle.change_checks.specs.declared.act.Act.TheVariants as act
use Rattle.change_checks.specs.Act.{kind_of_new}
use Rattle.row_index.specs.Places.{index_length}
use Rattle.row_index.specs.Hashes.{home}
use Rattle.row_index.specs.Edits.{Inserts, Removes}
use Rattle.tree_row.specs.Slots.{Slot, slot_at, packed}
use Rattle.tree_row.specs.Rows.{index_base, homes_in}
use Rattle.tree_row.specs.Questions.{IsFirstFree}
use Rattle.tree_row.specs.declared.look.RowEntry.{RowEntry}

-- the row with this many words set from a place on
abbrev pub with_words : List ℕ → ℕ → (ℕ → ℕ) → ℕ → List ℕ
with_words row base word zero = row
with_words row base word (suc n) = slice_set (with_words row base word n) (base + n) (word n)

abbrev pub with_text : List ℕ → ℕ → List ℕ → List ℕ
with_text row base text = with_words row base (packed text) ((length text + 7) / 8)

-- the row with a slot's cells set: the numbers, the component and the text
abbrev pub with_slot : List ℕ → ℕ → Slot → List ℕ
with_slot row s own =
    with_text (with_text
    (with_words row (164 * s) (slice_index (own.kind ∷ own.node ∷ own.parent ∷ (length own.component + 65536 * length own.text) ∷ []))
    4) (164 * s + 4) own.component) (164 * s + 36) own.text

-- the row with a slot freed, or with any that is given freed
abbrev pub without_slot : List ℕ → ℕ → List ℕ
without_slot row s = with_words row (164 * s) (slice_index (0 ∷ [])) 1

abbrev pub without_any : List ℕ → Option ℕ → List ℕ
without_any row None = row
without_any row (Some s) = without_slot row s

-- the row with the entry of a slot at another place: the slot of its directory, the length of its component, and the component
abbrev pub with_place : List ℕ → ℕ → ℕ → List ℕ → List ℕ
with_place row s parent name =
    with_text (with_words row (164 * s + 2) (slice_index (parent ∷ (length name + 65536 * (slice_index row (164 * s + 3) / 65536)) ∷ []))
    2) (164 * s + 4) name

-- the number that a kind has in a slot, and the text that it has
abbrev pub code_of : NodeKind → ℕ
code_of Directory = 1
code_of File = 2
code_of (Link text) = 3

abbrev pub text_in : NodeKind → List ℕ
text_in Directory = []
text_in File = []
text_in (Link text) = text

abbrev pub new_slot : NodeKind → ℕ → ℕ → List ℕ → Slot
new_slot kind node parent component = record {
  kind = code_of kind;
  node = node;
  parent = parent;
  component =
      component;
  text = text_in kind;
}

-- a slot is added to the index, where a search for a component in a directory begins
abbrev pub AddsToIndex : ℕ → ℕ → List ℕ → ℕ → List ℕ → List ℕ → Type 0
AddsToIndex capacity directory component s row after =
    Inserts (index_base capacity) (index_length capacity) (home (index_length capacity) directory component) s row after

-- a slot is removed from the index; the homes of the others are those of the slots of `before`
abbrev pub RemovesFromIndex : ℕ → List ℕ → ℕ → List ℕ → List ℕ → Type 0
RemovesFromIndex capacity before s row after =
    Removes (index_base capacity) (index_length capacity) (homes_in (index_length capacity) before) s row after

abbrev pub RemovesAny : ℕ → List ℕ → Option ℕ → List ℕ → List ℕ → Type 0
RemovesAny capacity before None row after = after ≡ row
RemovesAny capacity before (Some s) row after = RemovesFromIndex capacity before s row after

-- A new entry goes to the first free slot, an entry that is removed frees its slot, and one that moves keeps its slot, after the
-- slot of the entry that it replaces is freed. Then the index: what was at the old place and what was replaced are removed from it,
-- and what is at the new place is added.
abbrev pub Leaves : ℕ → List ℕ → ℕ → Act RowEntry → List ℕ → Type 0
Leaves capacity row next (act.Make place node) after = (s : ℕ) × IsFirstFree (capacity + 1) (slot_at row) s
    × AddsToIndex capacity place.directory.slot place.component.now s
    (with_slot row s (new_slot (kind_of_new node) next place.directory.slot place.component.now)) after
Leaves capacity row next (act.Link file place) after = (s : ℕ) × IsFirstFree (capacity + 1) (slot_at row) s
    × AddsToIndex capacity place.directory.slot place.component.now s
    (with_slot row s (new_slot File (slot_at row file.slot).node place.directory.slot place.component.now)) after
Leaves capacity row next (act.Remove place e) after = RemovesFromIndex capacity row e.slot (without_slot row e.slot) after
Leaves capacity row next (act.Move m) after =
    (freed : List ℕ) × (mid : List ℕ)
    × RemovesAny capacity row (option_map (λ (e : RowEntry). e.slot) m.replaced)
    (with_place (without_any row (option_map
    (λ (e : RowEntry). e.slot) m.replaced)) m.entry.slot m.to.directory.slot m.to.component.now) freed
    × RemovesFromIndex capacity row m.entry.slot freed mid
    × AddsToIndex capacity m.to.directory.slot m.to.component.now m.entry.slot mid after
Leaves capacity row next act.Nothing after = after ≡ row
