-- What it means that notes are those of a row.
use Rattle.std.specs.Prelude.{◌≡◌, ℕ, ◌+◌, ◌<◌, List, length}
use Rattle.tree_row.specs.Slots.{Slot, slot_at}
use Rattle.row_tally.specs.declared.note.Note.{Note}
use Rattle.row_tally.specs.Notes.{note_at}

abbrev pub note_of : Slot → Note
note_of slot = record { kind = slot.kind; parent = slot.parent }

-- for each slot of a row with room for `capacity` entries its kind and its directory
pub record IsTallyOf (capacity : ℕ) (row : List ℕ) (tally : List Note) : Type 0 where
  pub long : length tally ≡ capacity + 1
  pub notes : (s : ℕ) → s < capacity + 1 → note_at tally s ≡ note_of (slot_at row s)
