-- Lists in ascending order.
use Rattle.std.specs.Prelude.{ℕ, ◌<◌, List, length, slice_index_or}

-- the numbers grow from each to the next
abbrev pub IsAscending : List ℕ → Type 0
IsAscending set = (i j : ℕ) → i < j → j < length set → slice_index_or set i 0 < slice_index_or set j 0
