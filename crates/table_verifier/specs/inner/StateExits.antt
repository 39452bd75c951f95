-- How a state is left.
use Rattle.std.specs.Prelude.{◌≡◌, ℕ, ◌<◌, ◌≤◌, List, Some, length, take}
use Rattle.tables.specs.Tables.{Table, state_count, state_from}
use Rattle.table_verifier.specs.declared.byte_loop.Left.{Left}

-- the bytes up to the next one lead from the start to the state
pub record IsLeft (t : Table) (start : ℕ) (bytes : List ℕ) (from : ℕ) (left : Left) : Type 0 where
  pub on : from < left.next
  pub within : left.next ≤ length bytes
  pub there : left.state < state_count t
  pub leads : state_from t start (take left.next bytes) ≡ Some left.state
