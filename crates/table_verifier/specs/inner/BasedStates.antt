-- A state with its base.
use Rattle.std.specs.Prelude.{◌≡◌, ◌+◌, ◌^◌, ◌<◌, Some, slice_get}
use Rattle.tables.specs.Tables.{Table, cell_count, state_count}
use Rattle.table_verifier.specs.declared.entries.Standing.{Standing}

-- it is a state of the table, and its base, which is a word and after which there is a row
abbrev pub IsAt : Table → Standing → Type 0
IsAt t at = (at.state < state_count t) × (slice_get t.base at.state ≡ Some at.base) × (at.base + 255 < cell_count t)
    × (at.base < 2 ^ 32)
