-- Bases below which rows fit nowhere.
use Rattle.std.specs.Prelude.{◌≡◌, ℕ, ◌<◌, true, List, Some, slice_get}
use Rattle.table_image.specs.declared.taken.Taken.{Taken}
use Rattle.table_image.specs.declared.starts.Slot.{Slot}
use Rattle.table_image.specs.declared.starts.Starts.{Starts}
use Rattle.table_image.specs.inner.TakenCells.{is_blocked}

-- a row of these bytes fits nowhere below the start
abbrev pub IsStartFor : Taken → List ℕ → ℕ → Type 0
IsStartFor taken bytes start = (x : ℕ) → x < start → is_blocked taken bytes x ≡ true

abbrev pub AreStarts : Taken → Starts → Type 0
AreStarts taken starts = (i : ℕ) (slot : Slot) → slice_get starts.slots.items i ≡ Some slot → IsStartFor taken slot.bytes.items slot.start
