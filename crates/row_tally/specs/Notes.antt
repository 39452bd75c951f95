-- Notes of the slots of a row, and what is counted of them.
use Rattle.std.specs.Prelude.{◌≡◌, ◌↔◌, ℕ, ◌*◌, ◌<◌, ◌≤◌, ◌==◌, ◌&&◌, Bool, not, cond, List, length, drop, slice_index, slice_index_or}
use Rattle.std.specs.List.{count_by}
use Rattle.row_tally.specs.declared.note.Note.{Note}
use Rattle.row_tally.specs.Bits.{bit_in}

-- the note of a slot
abbrev pub note_at : List Note → ℕ → Note
note_at notes s = slice_index_or notes s (record { kind = 0; parent = 0 })

-- the slot isn't free, and its entry is in the directory of this slot
abbrev pub is_entry_in : ℕ → Note → Bool
is_entry_in directory note = not (note.kind == 0) && (note.parent == directory)

-- the same as a number
abbrev pub entry_in : ℕ → Note → ℕ
entry_in directory note = cond (is_entry_in directory note) 1 0

-- the number of slots past the root's whose entries are in the directory of this slot
abbrev pub entries_in : List Note → ℕ → ℕ
entries_in notes directory = count_by (is_entry_in directory) (drop 1 notes)

-- a slot past the root's that is free
pub record IsFreeNote (notes : List Note) (s : ℕ) : Type 0 where
  pub past_root : 0 < s
  pub within : s < length notes
  pub free : (note_at notes s).kind ≡ 0

-- the counts are those of the directories' entries, and the set bits are those of the free slots
pub record AreCounted (notes : List Note) (counts bits : List ℕ) : Type 0 where
  pub root : 0 < length notes
  pub few : length notes ≤ 16385
  pub long : length counts ≡ length notes
  pub entries : (d : ℕ) → d < length notes → slice_index counts d ≡ entries_in notes d
  pub room : length notes ≤ 64 * length bits
  pub free : (s : ℕ) → (bit_in bits s ≡ 1) ↔ IsFreeNote notes s
