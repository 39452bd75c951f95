-- The initial row.
use Rattle.std.specs.Prelude.{ℕ, List, slice_set, replicate}
use Rattle.tree_row.specs.Rows.{row_length}

-- the root's slot is a directory's of node 1, and all else is 0
abbrev pub opening_row : ℕ → List ℕ
opening_row capacity = slice_set (slice_set (replicate (row_length capacity) 0) 0 1) 1 1
