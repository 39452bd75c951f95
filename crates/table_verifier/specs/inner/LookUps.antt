-- What one look-up finds.
use Rattle.std.specs.Prelude.{◌≡◌, ℕ, ◌+◌, ◌<◌, Some}
use Rattle.tables.specs.Tables.{Table, depth_of, look_ups, next_state, state_count}
use Rattle.table_verifier.specs.declared.chains.Looked.{Looked}
use Rattle.table_verifier.specs.declared.chains.Looked.TheVariants.{Next, Onward}

-- the next state, found by this look-up alone; or the state from which the same byte leads there, in one look-up less
abbrev pub IsLooked : Table → ℕ → ℕ → Looked → Type 0
IsLooked t s b (Next n) = (next_state t s b ≡ Some n) × (look_ups t s b ≡ 1) × (n < state_count t)
IsLooked t s b (Onward n) = (next_state t s b ≡ next_state t n b) × (look_ups t s b ≡ look_ups t n b + 1)
    × (n < state_count t) × (depth_of t n < depth_of t s)
