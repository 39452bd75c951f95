-- Tables whose indices all stay within them, and the faults of the others.
use Rattle.std.specs.Prelude.{◌≡◌, ◌⊎◌, ℕ, ◌+◌, ◌<◌, ◌≤◌, length, Option, Some, None, slice_get, unwrap_or}
use Rattle.tables.specs.Tables.{Table, state_count, cell_count, record_count}
use Rattle.tables.specs.declared.fault.ImageFault.{ImageFault}
use Rattle.tables.specs.declared.fault.ImageFault.TheVariants as fault

-- a row has a cell for each byte
abbrev pub row_length : ℕ
row_length = 256

abbrev pub most_states : ℕ
most_states = 65536

abbrev pub most_cells : ℕ
most_cells = 16777216

abbrev pub most_records : ℕ
most_records = 65536

-- how many states, cells and records there may be: the dead state and the start, a row, and a record at least
pub record InLimits (states cells records : ℕ) : Type 0 where
  pub two_states : 2 ≤ states
  pub states_fit : states ≤ most_states
  pub one_row : row_length ≤ cells
  pub cells_fit : cells ≤ most_cells
  pub one_record : 1 ≤ records
  pub records_fit : records ≤ most_records

-- each list is as long as the others of its group
pub record IsShaped (t : Table) : Type 0 where
  pub bases : length t.base ≡ state_count t
  pub accepts : length t.accept ≡ state_count t
  pub checks : length t.check ≡ cell_count t
  pub depths : length t.depth ≡ state_count t

-- the numbers of states, cells and records are within the limits
abbrev pub IsWithinLimits : Table → Type 0
IsWithinLimits t = InLimits (state_count t) (cell_count t) (record_count t)

-- the depth of a state is over the bound, or is over 0 and not over that of the state's default
abbrev pub IsTooDeep : Table → ℕ → ℕ → Type 0
IsTooDeep t s d = (t.depth_bound < d)
    ⊎ ((0 < d) × (n : ℕ) × (slice_get t.default s ≡ Some n) × (e : ℕ) × (slice_get t.depth n ≡ Some e) × (d ≤ e))

-- no entry leads out of the tables, whatever the checks, and no byte is looked up more often than the bound allows
pub record InBounds (t : Table) : Type 0 where
  pub limits : IsWithinLimits t
  pub shaped : IsShaped t
  pub defaults : (s n : ℕ) → slice_get t.default s ≡ Some n → n < state_count t
  pub bases : (s n : ℕ) → slice_get t.base s ≡ Some n → n + 255 < cell_count t
  pub accepts : (s n : ℕ) → slice_get t.accept s ≡ Some n → n < record_count t
  pub nexts : (c n : ℕ) → slice_get t.next c ≡ Some n → n < state_count t
  pub depths : (s d : ℕ) → slice_get t.depth s ≡ Some d → ¬ (IsTooDeep t s d)

-- the table has this fault
abbrev pub HasFault : Table → ImageFault → Type 0
HasFault t fault.Counts = ¬ (IsWithinLimits t)
HasFault t fault.Length = ¬ (IsShaped t)
HasFault t (fault.Default s) = (n : ℕ) × (slice_get t.default s ≡ Some n) × (state_count t ≤ n)
HasFault t (fault.Base s) = (n : ℕ) × (slice_get t.base s ≡ Some n) × (cell_count t ≤ n + 255)
HasFault t (fault.Accept s) = (n : ℕ) × (slice_get t.accept s ≡ Some n) × (record_count t ≤ n)
HasFault t (fault.Next c) = (n : ℕ) × (slice_get t.next c ≡ Some n) × (state_count t ≤ n)
HasFault t (fault.Depth s) = (d : ℕ) × (slice_get t.depth s ≡ Some d) × IsTooDeep t s d
HasFault t _ = ⊥

abbrev pub fault_number : ImageFault → ℕ
fault_number fault.Short = 1
fault_number fault.Magic = 2
fault_number fault.Version = 3
fault_number fault.Reserved = 4
fault_number fault.Counts = 5
fault_number fault.Length = 6
fault_number (fault.Default s) = 7
fault_number (fault.Base s) = 8
fault_number (fault.Accept s) = 9
fault_number (fault.Next c) = 10
fault_number fault.NoMemory = 11
fault_number (fault.Depth s) = 12

-- the state or cell of a fault, if it has one
abbrev pub fault_index : ImageFault → Option ℕ
fault_index (fault.Default s) = Some s
fault_index (fault.Base s) = Some s
fault_index (fault.Accept s) = Some s
fault_index (fault.Next c) = Some c
fault_index (fault.Depth s) = Some s
fault_index _ = None

-- the same, 0 where it has none
abbrev pub fault_place : ImageFault → ℕ
fault_place f = unwrap_or (fault_index f) 0

-- the one fault has the lesser number, or the same and the lesser place
abbrev pub GoesBefore : ImageFault → ImageFault → Type 0
GoesBefore one other = (fault_number one < fault_number other)
    ⊎ ((fault_number one ≡ fault_number other) × (fault_place one ≤ fault_place other))

-- the first of the table's faults
pub record IsFirstFault (t : Table) (f : ImageFault) : Type 0 where
  pub has : HasFault t f
  pub first : (g : ImageFault) → HasFault t g → GoesBefore f g
